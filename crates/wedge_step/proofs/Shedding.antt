-- What is kept for values of CR3, when it loses rights or some of them leave.
use Rattle.std.proofs.Common.{◌≡◌, ℕ, ◌+◌, ◌^◌, ◌<◌, ◌≤◌, ◌==◌, List, [], ◌∷◌, take, zero, suc, Bool, true, false, not, cond, Option, Some, None, refl, sym, ap, subst, ◌∙◌, inl, inr, arith}
use Rattle.std.proofs.lemmas.Bool.{cases_lt}
use Rattle.std.proofs.lemmas.Cmp.{nat_cmp_total}
use Rattle.std.specs.Option.{ForSome}
use Rattle.std.specs.FinMap.{len, len-empty, same_map, nat_cmp-IsAntisymmetric}
use Rattle.std.specs.Ordering.{nat_cmp}
use Rattle.std.specs.List.{list_any}
use Rattle.std.proofs.lemmas.Option.{same_Some}
use Rattle.descriptors.specs.declared.cpu.Cpu.{Cpu}
use Rattle.descriptors.specs.Controls.{wp_of}
use Rattle.image_check.specs.Image.{Image}
use Rattle.paging.specs.declared.entry.Entry.{Entry}
use Rattle.shadow_tables.specs.OtherRoot.{OtherRoot, IsSame, AreSame, LoseWrites, all_spared}
use Rattle.shadow_tables.specs.Calls.{IsWithin}
use Rattle.shadow_tables.specs.Entries.{entries_of}
use Rattle.shadow_tables.specs.Laws.Entries.{get-entries_of, none-entries_of, entries_of-none}
use Rattle.shadow_tables.specs.Slots.{Slot}
use Rattle.shadow_tables.proofs.Lists.{within-same, note-within, within-kept}
use Rattle.shadow_cache.specs.Reloaded.{put_by, of_cr3, but_cr3, begun_root, coming, or_begun, beside_coming, staying}
use Rattle.machine_model.specs.Reloading.{IsFoundBy}
use Rattle.machine_model.specs.State.{Setting}
use Rattle.wedge_step.specs.Filled.{pages_of_others}
use Rattle.wedge_step.specs.Ready.{AreFound, IsReadyRoot, AreReady, AllOpen, AreReadyBehind}
use Rattle.wedge_step.specs.Standing.{AreOpen}
use Rattle.wedge_step.proofs.Bools.{none_some}
use Rattle.wedge_step.proofs.Opening.{within_open, none_open}

-- ---- slots with fewer rights

abbrev pub AllWithin : (new old : ℕ → Option Slot) → Type 0
AllWithin new old = (page : ℕ) → page < 2 ^ 20 → IsWithin (new page) (old page)

pub within_entries : (new old : ℕ → Option Slot) → AllWithin new old → entries_of new ≡ entries_of old
within_entries new old h =
    same_map nat_cmp_total nat_cmp-IsAntisymmetric (entries_of new) (entries_of old) (λ q. elim (cases_lt q (2 ^ 20)) [
      | inl l ↦ get-entries_of new q l ∙ (within-kept (new q) (old q) (h q l) ∙ sym (get-entries_of old q l))
      | inr g ↦ none-entries_of new q g ∙ sym (none-entries_of old q g)
    ])

-- what is said of entries is said of those with fewer rights
pub some_within : (P : Entry → Type 0) (a b : Option Slot) → IsWithin a b → ForSome b (λ s. P s.entry) → ForSome a (λ s. P s.entry)
some_within P None None w h = λ slot e. absurd (none_some slot e)
some_within P None (Some b) w h = absurd w
some_within P (Some a) None w h = absurd w
some_within P (Some a) (Some b) w h = λ slot e. subst (λ (s : Slot). P s.entry) (same_Some a slot e) (subst P (sym w.1) (h b refl))

pub found_tables : (ram : List ℕ) (frames cr3 : ℕ) (pse : Bool) (tables more : ℕ → Bool) (page : ℕ) (e : Entry)
    → ((f : ℕ) → tables f ≡ true → more f ≡ true)
    → IsFoundBy ram frames cr3 pse tables page e → IsFoundBy ram frames cr3 pse more page e
found_tables ram frames cr3 pse tables more page e h f = record {
  dir_at = f.dir_at;
  word_at = f.word_at;
  dirty = f.dirty;
  found = f.found;
  accessed = f.accessed;
  is_dirty = f.is_dirty;
  words = (h _ f.words.0, h _ f.words.1);
}

module _ (m : Setting) (cpu : Cpu) (ram : List ℕ) where
  pub found_within : (cr3 value : ℕ) (tables more : ℕ → Bool) (new old : ℕ → Option Slot) → value ≡ cr3
      → ((f : ℕ) → tables f ≡ true → more f ≡ true) → AllWithin new old
      → AreFound m cpu ram cr3 tables old → AreFound m cpu ram value more new
  found_within cr3 value tables more new old is wider w h page lt =
      let P = λ (e : Entry). IsFoundBy ram m.frames value (Rattle.descriptors.specs.Controls.pse_of cpu) more page e in
      some_within P (new page) (old page) (w page lt) (λ slot e.
      found_tables ram m.frames value _ tables more page slot.entry wider
      (subst (λ (c : ℕ). IsFoundBy ram m.frames c (Rattle.descriptors.specs.Controls.pse_of cpu) tables page slot.entry) (sym is)
      (h page lt slot e)))

-- ---- values of CR3, each with fewer rights

pub record Sheds (old new : OtherRoot) : Type 0 where
  pub cr3 : new.cr3 ≡ old.cr3
  pub tables : (f : ℕ) → new.tables f ≡ old.tables f
  pub slots : AllWithin new.slots old.slots

abbrev pub AllShed : List OtherRoot → List OtherRoot → Type 0
AllShed [] [] = Unit {0}
AllShed [] (n ∷ ns) = ⊥
AllShed (o ∷ os) [] = ⊥
AllShed (o ∷ os) (n ∷ ns) = Sheds o n × AllShed os ns

is_shed : (old new : OtherRoot) → IsSame old new → Sheds old new
is_shed old new h =
    record { cr3 = h.cr3; tables = h.tables; slots = λ page lt. within-same (new.slots page) (old.slots page) (h.slots page lt) }

pub same_shed : (olds news : List OtherRoot) → AreSame olds news → AllShed olds news
same_shed [] [] h = tt
same_shed [] (n ∷ ns) h = h
same_shed (o ∷ os) [] h = h
same_shed (o ∷ os) (n ∷ ns) h = (is_shed o n h.0, same_shed os ns h.1)

pub lost_shed : (frames : List ℕ) (olds news : List OtherRoot) → LoseWrites frames olds news → AllShed olds news
lost_shed frames [] [] h = tt
lost_shed frames [] (n ∷ ns) h = h
lost_shed frames (o ∷ os) [] h = h
lost_shed frames (o ∷ os) (n ∷ ns) h = (
  record { cr3 = h.0.cr3; tables = h.0.tables; slots = λ page lt. note-within o.slots n.slots frames page h.0.slots lt },
  lost_shed frames os ns h.1,
)

-- as many pages
pub shed_pages : (olds news : List OtherRoot) → AllShed olds news → pages_of_others news ≡ pages_of_others olds
shed_pages [] [] h = refl
shed_pages [] (n ∷ ns) h = absurd h
shed_pages (o ∷ os) [] h = absurd h
shed_pages (o ∷ os) (n ∷ ns) h =
    let here = ap (λ (set : Rattle.machine_model.specs.Run.Set). len set) (within_entries n.slots o.slots h.0.slots) in
    let rest = shed_pages os ns h.1 in
    omega (arith, here, rest)

pub open_shed : (image : Image) (wp : Bool) (olds news : List OtherRoot) → AllShed olds news → AllOpen image wp olds → AllOpen image wp news
open_shed image wp [] [] h a = tt
open_shed image wp [] (n ∷ ns) h a = absurd h
open_shed image wp (o ∷ os) [] h a = absurd h
open_shed image wp (o ∷ os) (n ∷ ns) h a =
    (λ page lt. within_open image wp (n.slots page) (o.slots page) (h.0.slots page lt) (a.0 page lt), open_shed image wp os ns h.1 a.1)

-- some of them leave
if_open : (image : Image) (wp b : Bool) (a : OtherRoot) (rest : List OtherRoot) → AreOpen image wp a.slots → AllOpen image wp rest
    → AllOpen image wp (cond b (a ∷ rest) rest)
if_open image wp true a rest h k = (h, k)
if_open image wp false a rest h k = k

pub open_spared : (image : Image) (wp : Bool) (wrote : List ℕ) (other_roots : List OtherRoot) → AllOpen image wp other_roots
    → AllOpen image wp (all_spared wrote other_roots)
open_spared image wp wrote [] h = tt
open_spared image wp wrote (a ∷ other_roots) h =
    if_open image wp (not (list_any a.tables wrote)) a (all_spared wrote other_roots) h.0 (open_spared image wp wrote other_roots h.1)

if_pages : (b : Bool) (a : OtherRoot) (rest all : List OtherRoot) → pages_of_others rest ≤ pages_of_others all
    → pages_of_others (cond b (a ∷ rest) rest) ≤ pages_of_others (a ∷ all)
if_pages true a rest all h = omega (arith, h)
if_pages false a rest all h = omega (arith, h)

pub spared_pages : (wrote : List ℕ) (other_roots : List OtherRoot)
    → pages_of_others (all_spared wrote other_roots) ≤ pages_of_others other_roots
spared_pages wrote [] = omega arith
spared_pages wrote (a ∷ other_roots) =
    if_pages (not (list_any a.tables wrote)) a (all_spared wrote other_roots) other_roots (spared_pages wrote other_roots)

module _ (m : Setting) (cpu : Cpu) (ram : List ℕ) where
  pub ready_shed : (old new : OtherRoot) → Sheds old new → IsReadyRoot m cpu ram old → IsReadyRoot m cpu ram new
  ready_shed old new s h = record {
    found = found_within m cpu ram old.cr3 new.cr3 old.tables new.tables new.slots old.slots s.cr3 (λ f e. s.tables f ∙ e) s.slots h.found;
    open_to = λ page lt. within_open m.image (wp_of cpu) (new.slots page) (old.slots page) (s.slots page lt) (h.open_to page lt);
  }

  pub all_ready_shed : (olds news : List OtherRoot) → AllShed olds news → AreReady m cpu ram olds → AreReady m cpu ram news
  all_ready_shed [] [] h a = tt
  all_ready_shed [] (n ∷ ns) h a = absurd h
  all_ready_shed (o ∷ os) [] h a = absurd h
  all_ready_shed (o ∷ os) (n ∷ ns) h a = (ready_shed o n h.0 a.0, all_ready_shed os ns h.1 a.1)

  pub ready_open : (other_roots : List OtherRoot) → AreReady m cpu ram other_roots → AllOpen m.image (wp_of cpu) other_roots
  ready_open [] h = tt
  ready_open (a ∷ other_roots) h = (h.0.open_to, ready_open other_roots h.1)

  ready_if : (b : Bool) (a : OtherRoot) (rest : List OtherRoot) → (b ≡ false → IsReadyRoot m cpu ram a) → AreReady m cpu ram rest
      → AreReady m cpu ram (cond (not b) (a ∷ rest) rest)
  ready_if true a rest h k = k
  ready_if false a rest h k = (h refl, k)

  -- those whose tables were written leave
  pub ready_spared : (wrote : List ℕ) (other_roots : List OtherRoot) → AreReadyBehind wrote m cpu ram other_roots
      → AreReady m cpu ram (all_spared wrote other_roots)
  ready_spared wrote [] h = tt
  ready_spared wrote (a ∷ other_roots) h =
      ready_if (list_any a.tables wrote) a (all_spared wrote other_roots) h.0 (ready_spared wrote other_roots h.1)

-- ---- a value is loaded

pub taken_pages : (n : ℕ) (other_roots : List OtherRoot) → pages_of_others (take n other_roots) ≤ pages_of_others other_roots
taken_pages zero other_roots = omega arith
taken_pages (suc n) [] = omega arith
taken_pages (suc n) (a ∷ other_roots) = let h = taken_pages n other_roots in omega (arith, h)

begun_pages : (cr3 : ℕ) → len (entries_of (begun_root cr3).slots) ≡ 0
begun_pages cr3 = ap (λ (set : Rattle.machine_model.specs.Run.Set). len set) (entries_of-none (begun_root cr3).slots (λ page lt. refl))
    ∙ len-empty nat_cmp Entry

-- how many pages there are for the value and beside it
abbrev all_pages : ℕ → List OtherRoot → ℕ
all_pages cr3 other_roots = len (entries_of (coming cr3 other_roots).slots) + pages_of_others (staying cr3 other_roots)

one_pages : (cr3 : ℕ) (a : OtherRoot) (other_roots : List OtherRoot) (o : Option OtherRoot)
    → ((x : OtherRoot) → o ≡ Some x → len (entries_of x.slots) + pages_of_others (but_cr3 cr3 other_roots) ≤ pages_of_others other_roots)
    → (b : Bool) → (x : OtherRoot) → cond b (Some a) o ≡ Some x → len (entries_of x.slots)
    + pages_of_others (cond b other_roots (a ∷ but_cr3 cr3 other_roots)) ≤ pages_of_others (a ∷ other_roots)
one_pages cr3 a other_roots o h true x e =
    let is : a ≡ x = cc in
    let same = ap (λ (y : OtherRoot). len (entries_of y.slots)) is in
    omega (arith, same)
one_pages cr3 a other_roots o h false x e = let k = h x e in omega (arith, k)

some_pages : (cr3 : ℕ) (other_roots : List OtherRoot) (x : OtherRoot) → of_cr3 cr3 other_roots ≡ Some x → len (entries_of x.slots)
    + pages_of_others (but_cr3 cr3 other_roots) ≤ pages_of_others other_roots
some_pages cr3 [] x e = absurd (none_some x e)
some_pages cr3 (a ∷ other_roots) x e = one_pages cr3 a other_roots (of_cr3 cr3 other_roots) (some_pages cr3 other_roots) (a.cr3 == cr3) x e

pub loaded_pages : (cr3 : ℕ) (other_roots : List OtherRoot) → all_pages cr3 other_roots ≤ pages_of_others other_roots
loaded_pages cr3 other_roots = by (of_cr3 cr3 other_roots) refl
  where
    by : (o : Option OtherRoot) → of_cr3 cr3 other_roots ≡ o → len (entries_of (or_begun cr3 (of_cr3 cr3 other_roots)).slots)
        + pages_of_others (beside_coming cr3 other_roots (of_cr3 cr3 other_roots)) ≤ pages_of_others other_roots
    by None e =
        let none = ap (λ (o : Option OtherRoot). len (entries_of (or_begun cr3 o).slots)) e ∙ begun_pages cr3 in
        let beside = ap (λ (o : Option OtherRoot). pages_of_others (beside_coming cr3 other_roots o)) e in
        let few = taken_pages 7 other_roots in
        omega (arith, none, beside, few)
    by (Some x) e =
        let here = ap (λ (o : Option OtherRoot). len (entries_of (or_begun cr3 o).slots)) e in
        let beside = ap (λ (o : Option OtherRoot). pages_of_others (beside_coming cr3 other_roots o)) e in
        let few = some_pages cr3 other_roots x e in
        omega (arith, here, beside, few)

pub put_by_pages : (value : Option ℕ) (stale : Bool) (tables : ℕ → Bool) (slots : ℕ → Option Slot) (other_roots : List OtherRoot)
    → pages_of_others (put_by value stale tables slots other_roots) ≤ len (entries_of slots) + pages_of_others other_roots
put_by_pages None stale tables slots other_roots = omega arith
put_by_pages (Some cr3) true tables slots other_roots = omega arith
put_by_pages (Some cr3) false tables slots other_roots = omega arith

-- what is said of each value is said of the one that comes, and of those beside it
module _ (P : OtherRoot → Type 0) where
  abbrev pub Each : List OtherRoot → Type 0
  Each [] = Unit {0}
  Each (a ∷ other_roots) = P a × Each other_roots

  each_taken : (n : ℕ) (other_roots : List OtherRoot) → Each other_roots → Each (take n other_roots)
  each_taken zero other_roots h = tt
  each_taken (suc n) [] h = tt
  each_taken (suc n) (a ∷ other_roots) h = (h.0, each_taken n other_roots h.1)

  one_but : (b : Bool) (a : OtherRoot) (other_roots rest : List OtherRoot) → P a → Each other_roots → Each rest
      → Each (cond b other_roots (a ∷ rest))
  one_but true a other_roots rest h all k = all
  one_but false a other_roots rest h all k = (h, k)

  each_but : (cr3 : ℕ) (other_roots : List OtherRoot) → Each other_roots → Each (but_cr3 cr3 other_roots)
  each_but cr3 [] h = tt
  each_but cr3 (a ∷ other_roots) h = one_but (a.cr3 == cr3) a other_roots (but_cr3 cr3 other_roots) h.0 h.1 (each_but cr3 other_roots h.1)

  beside : (cr3 : ℕ) (other_roots : List OtherRoot) (o : Option OtherRoot) → Each other_roots → Each (beside_coming cr3 other_roots o)
  beside cr3 other_roots None h = each_taken 7 other_roots h
  beside cr3 other_roots (Some a) h = each_but cr3 other_roots h

  pub each_staying : (cr3 : ℕ) (other_roots : List OtherRoot) → Each other_roots → Each (staying cr3 other_roots)
  each_staying cr3 other_roots h = beside cr3 other_roots (of_cr3 cr3 other_roots) h

  one_of : (cr3 : ℕ) (b : Bool) (a : OtherRoot) (o : Option OtherRoot) → P a → P (or_begun cr3 o) → P (or_begun cr3 (cond b (Some a) o))
  one_of cr3 true a o h k = h
  one_of cr3 false a o h k = k

  pub each_coming : (cr3 : ℕ) (other_roots : List OtherRoot) → P (begun_root cr3) → Each other_roots → P (coming cr3 other_roots)
  each_coming cr3 [] none h = none
  each_coming cr3 (a ∷ other_roots) none h = one_of cr3 (a.cr3 == cr3) a (of_cr3 cr3 other_roots) h.0 (each_coming cr3 other_roots none h.1)

-- the value that comes is the one that is loaded
value_if : (cr3 : ℕ) (b : Bool) (a : OtherRoot) (o : Option OtherRoot) → (a.cr3 == cr3) ≡ b → (or_begun cr3 o).cr3 ≡ cr3
    → (or_begun cr3 (cond b (Some a) o)).cr3 ≡ cr3
value_if cr3 true a o e k =
    (elim (Rattle.std.proofs.lemmas.Bool.Decides.eqb_tells a.cr3 cr3)
    [ inl t ↦ t.1 | inr n ↦ absurd (let f : true ≡ false = sym e ∙ n.0 in cc) ])
value_if cr3 false a o e k = k

pub coming_value : (cr3 : ℕ) (other_roots : List OtherRoot) → (coming cr3 other_roots).cr3 ≡ cr3
coming_value cr3 [] = refl
coming_value cr3 (a ∷ other_roots) = value_if cr3 (a.cr3 == cr3) a (of_cr3 cr3 other_roots) refl (coming_value cr3 other_roots)

module _ (m : Setting) (cpu : Cpu) (ram : List ℕ) where
  pub begun_ready : (cr3 : ℕ) → IsReadyRoot m cpu ram (begun_root cr3)
  begun_ready cr3 = record {
    found = λ page lt slot e. absurd (none_some slot e);
    open_to = none_open m.image (wp_of cpu) (begun_root cr3).slots (λ page lt. refl);
  }

  pub ready_each : (other_roots : List OtherRoot) → AreReady m cpu ram other_roots → Each (IsReadyRoot m cpu ram) other_roots
  ready_each [] h = tt
  ready_each (a ∷ other_roots) h = (h.0, ready_each other_roots h.1)

  pub each_ready : (other_roots : List OtherRoot) → Each (IsReadyRoot m cpu ram) other_roots → AreReady m cpu ram other_roots
  each_ready [] h = tt
  each_ready (a ∷ other_roots) h = (h.0, each_ready other_roots h.1)

pub open_each : (image : Image) (wp : Bool) (other_roots : List OtherRoot) → AllOpen image wp other_roots
    → Each (λ (a : OtherRoot). AreOpen image wp a.slots) other_roots
open_each image wp [] h = tt
open_each image wp (a ∷ other_roots) h = (h.0, open_each image wp other_roots h.1)
