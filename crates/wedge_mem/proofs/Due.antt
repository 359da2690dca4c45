-- Which pages are filled at the end of a step, and why the others needn't be.
use Rattle.std.proofs.Common.{◌≡◌, ℕ, ◌+◌, ◌^◌, ◌<◌, ◌≤◌, List, [], ◌∷◌, map, length, drop, get_or, Bool, true, false, not, cond, eqb, ◌&&◌, ◌||◌, Option, Some, None, is_some, refl, sym, ap, ◌∙◌, inl, inr, arith}
use Rattle.std.proofs.lemmas.Bool.{cases_lt, cases_Bool}
use Rattle.std.proofs.lemmas.Bool.Decides.{eqb_tells}
use mir.Val.{bool_byte}
use Rattle.std.specs.FinMap.{FinMap, get}
use Rattle.std.specs.Ordering.{nat_cmp}
use Rattle.std.proofs.lemmas.List.{drop_more}
use Rattle.paging.specs.declared.entry.Entry.{Entry}
use Rattle.guest_ram.specs.Among.{is_among}
use Rattle.shadow_tables.specs.Entries.{entries_of}
use Rattle.shadow_tables.specs.Laws.Entries.{get-entries_of, none-entries_of}
use Rattle.shadow_tables.specs.Slots.{Slot, Turns, barred, entry_in, is_side, permits}
use Rattle.shadow_tables.specs.declared.words.Side.{Side}
use Rattle.shadow_tables.proofs.Sides.{side-is}
use Rattle.step_mem.specs.Changes.{AreOfPages, changed, entry_of, last_change, page_of}
use Rattle.step_mem.specs.declared.changes.Change.{Change}
use Rattle.step_mem.proofs.Changed.{settle, get_changed}
use Rattle.wedge_mem.specs.Settled.{IsFillCount, LosesSome, filled_by, has_entry, is_due, refilled, serves}
use Rattle.wedge_mem.specs.Told.{guest_frames}
use Rattle.wedge_mem.proofs.Lists.{true-false, used-by}
use Rattle.wedge_mem.proofs.Filled.{filled-by, last-beyond, last-none, self}

-- ---- what serves is what a fill would make

parts : (p0 m r p1 w : Bool) → ((p0 && (m && r)) && cond p1 (m && w) (not (m && w))) ≡ true → (m ≡ true) × (r ≡ p0) × (w ≡ p1)
parts true true true true true e = (refl, refl, refl)
parts true true true true false e = absurd (true-false (sym e))
parts true true true false true e = absurd (true-false (sym e))
parts true true true false false e = (refl, refl, refl)
parts true true false p1 w e = absurd (true-false (sym e))
parts true false r p1 w e = absurd (true-false (sym e))
parts false m r p1 w e = absurd (true-false (sym e))

still : (w t p : Bool) → (t ≡ true → w ≡ false) → w ≡ p → w ≡ (not t && p)
still w true p h e = h refl
still w false p h e = e

abbrev slot : Side → Entry → Bool → Bool → Slot
slot side entry reads writes = record { side = side; entry = entry; reads = reads; writes = writes }

slot-same : (s : Slot) (side : Side) (reads writes : Bool) → s.side ≡ side → s.reads ≡ reads → s.writes ≡ writes
    → Some s ≡ Some (slot side s.entry reads writes)
slot-same s side reads writes a b c = λ i. Some (slot (a i) s.entry (b i) (c i))

pub serves-same : (side : Side) (wp : Bool) (write_protected : List ℕ) (o : Option Slot)
    → ((s : Slot) → o ≡ Some s → is_among s.entry.frame write_protected ≡ true → s.writes ≡ false)
    → serves side wp o ≡ true → o ≡ filled_by side wp write_protected (entry_in o)
serves-same side wp write_protected None h e = refl
serves-same side wp write_protected (Some s) h e =
    let p = parts (permits side s.entry false wp) (is_side s.side side) s.reads (permits side s.entry true wp) s.writes e in
    slot-same s side (permits side s.entry false wp) (not (is_among s.entry.frame write_protected) && permits side s.entry true wp)
    (side-is s.side side p.0) p.1
    (still s.writes (is_among s.entry.frame write_protected) (permits side s.entry true wp) (h s refl) p.2)

pub served-not : (h s : Bool) → s ≡ true → false ≡ (h && not s)
served-not true s e = sym (ap not e)
served-not false s e = refl

-- ---- a page whose entry the step changed

some-by : (b : Bool) (x y : Option Entry) (cs : List Change) (q : ℕ) → ((z : Option Entry) → last_change (Some z) cs q ≡ None → ⊥)
    → last_change (cond b (Some x) (Some y)) cs q ≡ None → ⊥
some-by true x y cs q h e = h x e
some-by false x y cs q h e = h y e

some-still : (x : Option Entry) (cs : List Change) (q : ℕ) → last_change (Some x) cs q ≡ None → ⊥
some-still x [] q e = cc
some-still x (c ∷ cs) q e = some-by (eqb (page_of c) q) (entry_of c) x cs q (λ z. some-still z cs q) e

changed-some : (f : Option (Option Entry)) (cs : List Change) (q : ℕ) → is_among q (map page_of cs) ≡ true → last_change f cs q ≡ None → ⊥
changed-some f [] q t e = true-false (sym t)
changed-some f (c ∷ cs) q t e =
    elim (eqb_tells q (page_of c)) [
      | inl s ↦
          some-still (entry_of c) cs q
          (sym (ap (λ (b : Bool). last_change (cond b (Some (entry_of c)) f) cs q)
          (ap (λ (x : ℕ). eqb (page_of c) x) s.1 ∙ self (page_of c))) ∙ e)
      | inr n ↦ changed-some (cond (eqb (page_of c) q) (Some (entry_of c)) f) cs q
          (sym (ap (λ (b : Bool). b || is_among q (map page_of cs)) n.0) ∙ t) e
    ]

changed-told : (cs : List Change) (q : ℕ) (x : Option Entry) → last_change None cs q ≡ Some x → is_among q (map page_of cs) ≡ true
changed-told cs q x e =
    elim (cases_Bool (is_among q (map page_of cs))) [
      | inl t ↦ t
      | inr n ↦ absurd (let o : None ≡ Some x = sym (last-none None cs q n) ∙ e in cc)
    ]

unchanged-told : (cs : List Change) (q : ℕ) → last_change None cs q ≡ None → is_among q (map page_of cs) ≡ false
unchanged-told cs q e = elim (cases_Bool (is_among q (map page_of cs))) [ inl t ↦ absurd (changed-some None cs q t e) | inr n ↦ n ]

-- ---- its entry after the step

module _ (kept : ℕ → Option Slot) (cs : List Change) (page : ℕ) where
  pub entry-changed : (x : Option Entry) → last_change None cs page ≡ Some x → get (changed (entries_of kept) cs) page ≡ x
  entry-changed x e = get_changed (entries_of kept) cs page ∙ ap (λ (o : Option (Option Entry)). settle o (get (entries_of kept) page)) e

  pub entry-unchanged : page < 2 ^ 20 → last_change None cs page ≡ None → get (changed (entries_of kept) cs) page ≡ entry_in (kept page)
  entry-unchanged l e =
      get_changed (entries_of kept) cs page ∙ ap (λ (o : Option (Option Entry)). settle o (get (entries_of kept) page)) e
      ∙ get-entries_of kept page l

  pub beyond-none : AreOfPages cs → 2 ^ 20 ≤ page → get (changed (entries_of kept) cs) page ≡ None
  beyond-none a h =
      get_changed (entries_of kept) cs page
      ∙ ap (λ (o : Option (Option Entry)). settle o (get (entries_of kept) page)) (last-beyond None cs page a h)
      ∙ none-entries_of kept page h

-- ---- whether it is filled, in the cases of one page

none-first : (o : Option Entry) (b c : Bool) → o ≡ None → false ≡ ((has_entry o && b) && c)
none-first None b c e = refl
none-first (Some x) b c e = absurd (cc)

later-none : (a b c : Bool) → b ≡ true → false ≡ ((a && not b) && c)
later-none true b c e = sym (ap (λ (x : Bool). not x && c) e)
later-none false b c e = refl

all-true : (h n d : Bool) → n ≡ false → d ≡ true → h ≡ ((h && not n) && d)
all-true true n d e f = sym (ap (λ (x : Bool). not x && d) e ∙ f)
all-true false n d e f = refl

last-true : (h n c s : Bool) → n ≡ false → c ≡ false → (h && not s) ≡ ((h && not n) && (c || not s))
last-true true n c s e f = sym (ap (λ (x : Bool). not x && (c || not s)) e ∙ ap (λ (x : Bool). x || not s) f)
last-true false n c s e f = refl

some-is : (o : Option Entry) → is_some o ≡ has_entry o
some-is None = refl
some-is (Some x) = refl

module _ (kept : ℕ → Option Slot) (cs : List Change) (side : Side) (wp : Bool) (page : ℕ) (later : List ℕ) where
  abbrev pub IsFilledAs : Bool → Type 0
  IsFilledAs b = b ≡ ((has_entry (get (changed (entries_of kept) cs) page) && not (is_among page later)) && is_due kept cs side wp page)

  pub filled-beyond : AreOfPages cs → 2 ^ 20 ≤ page → IsFilledAs false
  filled-beyond a h = none-first (get (changed (entries_of kept) cs) page) (not (is_among page later)) (is_due kept cs side wp page)
      (beyond-none kept cs page a h)

  pub filled-later : is_among page later ≡ true → IsFilledAs false
  filled-later t = later-none (has_entry (get (changed (entries_of kept) cs) page)) (is_among page later) (is_due kept cs side wp page) t

  pub filled-changed : (x : Option Entry) → last_change None cs page ≡ Some x → is_among page later ≡ false → IsFilledAs (is_some x)
  filled-changed x e n =
      some-is x ∙ ap has_entry (sym (entry-changed kept cs page x e))
      ∙ all-true (has_entry (get (changed (entries_of kept) cs) page)) (is_among page later) (is_due kept cs side wp page) n
      (ap (λ (b : Bool). b || not (serves side wp (kept page))) (changed-told cs page x e))

  pub filled-again : page < 2 ^ 20 → last_change None cs page ≡ None → is_among page later ≡ false
      → IsFilledAs (has_entry (entry_in (kept page)) && not (serves side wp (kept page)))
  filled-again l e n =
      ap (λ (o : Option Entry). has_entry o && not (serves side wp (kept page))) (sym (entry-unchanged kept cs page l e))
      ∙ last-true (has_entry (get (changed (entries_of kept) cs) page)) (is_among page later) (is_among page (map page_of cs))
      (serves side wp (kept page)) n (unchanged-told cs page e)

-- ---- what a fill of it takes, and leaves

with-true : (h : Bool) → cond {A = ℕ} (h && true) 1 0 ≡ cond h 1 0
with-true true = refl
with-true false = refl

pub takes-one : (o e : Option Entry) (b : Bool) → o ≡ e → b ≡ false → cond {A = ℕ} (has_entry o && not b) 1 0 ≡ cond (has_entry e) 1 0
takes-one o e b is n =
    ap (λ (x : Bool). cond {A = ℕ} (has_entry o && not x) 1 0) n ∙ with-true (has_entry o)
    ∙ ap (λ (x : Option Entry). cond {A = ℕ} (has_entry x) 1 0) is

pub turned-last : (old new : ℕ → Option Slot) (page : ℕ) (later : List ℕ) (v w : Option Slot) → Turns old new page v
    → is_among page later ≡ false → v ≡ w
    → (q : ℕ) → q < 2 ^ 20 → new q ≡ cond (eqb q page && not (is_among page later)) w (old q)
turned-last old new page later v w t n e q l =
    elim (eqb_tells q page) [
      | inl s ↦ ap new s.1 ∙ (t.there ∙ (e ∙ sym (filled-by (eqb q page) (is_among page later) w (old q) s.0 n)))
      | inr s ↦ t.others q l s.1 ∙ sym (ap (λ (b : Bool). cond (b && not (is_among page later)) w (old q)) s.0)
    ]

-- ---- how many are filled

module _ (kept : ℕ → Option Slot) (set : FinMap nat_cmp Entry) (cs : List Change) (side : Side) (wp : Bool) where
  -- the page at this place is filled
  abbrev pub is_filled_at : List ℕ → ℕ → Bool
  is_filled_at xs i =
      (has_entry (get set (get_or xs i 0)) && not (is_among (get_or xs i 0) (drop (i + 1) xs))) && is_due kept cs side wp (get_or xs i 0)

  pub refilled-at : (xs : List ℕ) (i : ℕ) → i < length xs
      → length (refilled kept set cs side wp (drop i xs)) ≡ cond (is_filled_at xs i) 1 0
      + length (refilled kept set cs side wp (drop (i + 1) xs))
  refilled-at xs i h =
      ap (λ (ys : List ℕ). length (refilled kept set cs side wp ys)) (drop_more xs i 0 h)
      ∙ used-by (is_filled_at xs i) (get_or xs i 0) (refilled kept set cs side wp (drop (i + 1) xs))

module _ (f g : ℕ → Option Slot) (set : FinMap nat_cmp Entry) (cs : List Change) (side : Side) (wp : Bool)
    (same : (q : ℕ) → q < 2 ^ 20 → f q ≡ g q) (beyond : (q : ℕ) → 2 ^ 20 ≤ q → get set q ≡ None) where
  due-same : (q : ℕ) (b : Bool) → ((has_entry (get set q) && b) && is_due f cs side wp q)
      ≡ ((has_entry (get set q) && b) && is_due g cs side wp q)
  due-same q b =
      elim (cases_lt q (2 ^ 20)) [
        | inl l ↦ ap (λ (o : Option Slot). (has_entry (get set q) && b) && (is_among q (map page_of cs) || not (serves side wp o)))
            (same q l)
        | inr h ↦ sym (none-first (get set q) b (is_due f cs side wp q) (beyond q h))
            ∙ none-first (get set q) b (is_due g cs side wp q) (beyond q h)
      ]

  pub refilled-same : (pages : List ℕ) → refilled f set cs side wp pages ≡ refilled g set cs side wp pages
  refilled-same [] = refl
  refilled-same (page ∷ pages) =
      ap (λ (b : Bool). cond {A = List ℕ} b (page ∷ refilled f set cs side wp pages) (refilled f set cs side wp pages))
      (due-same page (not (is_among page pages)))
      ∙ ap (λ (ys : List ℕ). cond {A = List ℕ} ((has_entry (get set page) && not (is_among page pages)) && is_due g cs side wp page)
      (page ∷ ys) ys) (refilled-same pages)

-- a page that wasn't gone through before is filled by what is kept now as by what was kept at first
pub filled-still : (xs : List ℕ) (i : ℕ) (old now : ℕ → Option Slot) (cs : List Change) (side : Side) (wp : Bool) (ys : List ℕ) (r : Bool)
    → AreOfPages cs → ys ≡ drop (i + 1) xs
    → get (changed (entries_of now) cs) (get_or xs i 0) ≡ get (changed (entries_of old) cs) (get_or xs i 0)
    → (get_or xs i 0 < 2 ^ 20 → now (get_or xs i 0) ≡ old (get_or xs i 0))
    → IsFilledAs now cs side wp (get_or xs i 0) ys r → r ≡ is_filled_at old (changed (entries_of old) cs) cs side wp xs i
filled-still xs i old now cs side wp ys r a later entry same is =
    let page : ℕ = get_or xs i 0 in
    let rest : Bool = not (is_among page (drop (i + 1) xs)) in
    let first : Option Entry = get (changed (entries_of old) cs) page in
    let moved : r ≡ ((has_entry first && rest) && is_due now cs side wp page) =
    is ∙ (ap (λ (o : Option Entry). (has_entry o && not (is_among page ys)) && is_due now cs side wp page) entry
    ∙ ap (λ (zs : List ℕ). (has_entry first && not (is_among page zs)) && is_due now cs side wp page) later) in
    elim (cases_lt page (2 ^ 20)) [
      | inl l ↦ moved ∙ ap (λ (o : Option Slot). (has_entry first && rest) && (is_among page (map page_of cs) || not (serves side wp o)))
          (same l)
      | inr h ↦
          let none = beyond-none old cs page a h in
          moved ∙ (sym (none-first first rest (is_due now cs side wp page) none) ∙ none-first first rest (is_due old cs side wp page) none)
    ]

-- one more or none
pub worth-is : (b : Bool) → bool_byte b ≡ cond {A = ℕ} b 1 0
worth-is true = refl
worth-is false = refl

pub worth-few : (b : Bool) → bool_byte b ≤ 1
worth-few true = omega arith
worth-few false = omega arith

-- ---- how many were filled once the tables were noted

pub settled-count : (old mid : ℕ → Option Slot) (cs : List Change) (tables visited : List ℕ) (side : Side) (wp : Bool) (n : ℕ)
    → AreOfPages cs → entries_of mid ≡ entries_of old
    → LosesSome (guest_frames tables) old mid → n ≡ length (refilled mid (changed (entries_of mid) cs) cs side wp visited)
    → IsFillCount old (changed (entries_of old) cs) cs tables visited side wp n
settled-count old mid cs tables visited side wp n a same l is = record {
  lost = l.lost;
  part = l.part;
  exact =
      is ∙ (ap (λ (e : FinMap nat_cmp Entry). length (refilled mid (changed e cs) cs side wp visited)) same
      ∙ ap length (refilled-same mid (λ page. barred l.lost (old page)) (changed (entries_of old) cs) cs side wp l.loses
      (λ q h. beyond-none old cs q a h) visited));
}
