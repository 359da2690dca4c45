-- What a view may show, when slots change.
use Rattle.std.proofs.Common.{◌≡◌, ◌⊎◌, ℕ, ◌/◌, ◌<◌, ◌^◌, Bool, true, false, ◌&&◌, not, inl, inr, refl, sym, ap, subst, ◌∙◌, Option, Some, None, List}
use Rattle.std.specs.Prelude.{nat_le, ◌==◌}
use Rattle.std.proofs.lemmas.Bool.{eq-eqb, eqb-true, leb-true}
use Rattle.std.proofs.lemmas.Bool.Decides.{eqb_tells}
use Rattle.std.specs.Option.{ForSome}
use Rattle.std.specs.FinMap.{FinMap, get, empty, get-empty}
use Rattle.std.specs.Ordering.{nat_cmp}
use Rattle.std.proofs.lemmas.Option.{same_Some}
use Rattle.machine_model.specs.UsedPages.{may_use}
use Rattle.machine_model.specs.State.{wedge_mode}
use Rattle.paging.specs.declared.entry.Entry.{Entry}
use Rattle.paging.specs.Fresh.{allows}
use Rattle.paging.specs.Uses.{is_text, is_given}
use Rattle.image_check.specs.Image.{Image}
use Rattle.image_load.specs.Boot.{text_pages}
use Rattle.shadow_tables.specs.Entries.{entries_of}
use Rattle.shadow_tables.specs.Calls.{IsWithin}
use Rattle.guest_ram.specs.Among.{is_among}
use Rattle.shadow_tables.specs.Slots.{Slot, filled, is_user, permits, entry_in, Turns, LosesDir}
use Rattle.shadow_tables.specs.declared.words.Side.{Side}
use Rattle.shadow_tables.specs.declared.words.Side.TheVariants.{Kernel, User}
use Rattle.native_steps.specs.Lends.{IsOpen}
use Rattle.wedge_mem.specs.Settled.{Settles, filled_by}
use Rattle.wedge_step.specs.Opened.{is_entry_open}
use Rattle.wedge_step.specs.Standing.{is_kernel, lets, IsOpenSlot, AreOpen}
use Rattle.wedge_step.proofs.Bools.{both, either, is_not, none_some}

-- the test says where the view may lead
open_leads : (image : Image) (side : Side) (page frame : ℕ) → may_use (wedge_mode image) (is_user side) page frame ≡ true
    → IsOpen (is_kernel side) image page frame
open_leads image User page frame h = is_not (is_text (wedge_mode image) frame) h
open_leads image Kernel page frame h =
    elim (either (is_given (wedge_mode image) page frame) (nat_le 0x11000 page && not (is_text (wedge_mode image) frame)) h) [
      | inl given ↦ inl given
      | inr data_page ↦
          let parts = both (nat_le 0x11000 page) (not (is_text (wedge_mode image) frame)) data_page in
          inr (leb-true 0x11000 page parts.0, is_not (is_text (wedge_mode image) frame) parts.1)
    ]

rights : (barred : Bool) (side : Side) (entry : Entry) (wp write : Bool) → lets (filled barred side entry wp) write ≡ true
    → allows entry (record { write = write; user = is_user side }) wp ≡ true
rights barred side entry wp false h = h
rights barred side entry wp true h = (both (not barred) (permits side entry true wp) h).1

-- a page that was filled
filled_open : (image : Image) (barred : Bool) (side : Side) (entry : Entry) (wp : Bool)
    → may_use (wedge_mode image) (is_user side) entry.page entry.frame ≡ true → IsOpenSlot image wp (filled barred side entry wp)
filled_open image barred side entry wp h = record {
  allowed = λ write l. rights barred side entry wp write l;
  leads = λ write l. open_leads image side entry.page entry.frame h;
}

lets_within : (a b : Slot) → IsWithin (Some a) (Some b) → (write : Bool) → lets a write ≡ true → lets b write ≡ true
lets_within a b w true l = w.3 l
lets_within a b w false l = sym w.2 ∙ l

-- a page that was kept with no more rights
open_within : (image : Image) (wp : Bool) (a b : Slot) → IsWithin (Some a) (Some b) → IsOpenSlot image wp b → IsOpenSlot image wp a
open_within image wp a b w h = record {
  allowed = λ write l.
      ap (λ (e : Entry). allows e (record { write = write; user = is_user a.side }) wp) w.1
      ∙ ap (λ (s : Side). allows b.entry (record { write = write; user = is_user s }) wp) w.0
      ∙ h.allowed write (lets_within a b w write l);
  leads = λ write l.
      subst (λ (s : Side). IsOpen (is_kernel s) image a.entry.page a.entry.frame) (sym w.0)
      (subst (λ (e : Entry). IsOpen (is_kernel b.side) image e.page e.frame) (sym w.1) (h.leads write (lets_within a b w write l)));
}

pub within_open : (image : Image) (wp : Bool) (a b : Option Slot) → IsWithin a b → ForSome b (IsOpenSlot image wp)
    → ForSome a (IsOpenSlot image wp)
within_open image wp None b w h = λ slot e. absurd (none_some slot e)
within_open image wp (Some a) None w h = absurd w
within_open image wp (Some a) (Some b) w h =
    λ slot e. subst (IsOpenSlot image wp) (same_Some a slot e) (open_within image wp a b w (h b refl))

filled_so : (image : Image) (wp : Bool) (side : Side) (write_protected : List ℕ) (o : Option Entry)
    → is_entry_open (text_pages image) side o ≡ true → ForSome (filled_by side wp write_protected o) (IsOpenSlot image wp)
filled_so image wp side write_protected None h = λ slot e. absurd (none_some slot e)
filled_so image wp side write_protected (Some entry) h =
    λ slot e. subst (IsOpenSlot image wp) (same_Some (filled (is_among entry.frame write_protected) side entry wp) slot e)
    (filled_open image (is_among entry.frame write_protected) side entry wp h)

-- the pages of a step, and the others
pub settled_open : (image : Image) (wp : Bool) (old new : ℕ → Option Slot) (set : FinMap nat_cmp Entry) (pages : List ℕ) (side : Side)
    (write_protected : List ℕ)
    → Settles old new set pages side wp write_protected
    → ((page : ℕ) → is_among page pages ≡ true → is_entry_open (text_pages image) side (get set page) ≡ true) → AreOpen image wp old
    → AreOpen image wp new
settled_open image wp old new set pages side write_protected s tested h page lt = by (is_among page pages) refl
  where
    by : (b : Bool) → is_among page pages ≡ b → ForSome (new page) (IsOpenSlot image wp)
    by true e = subst (λ (o : Option Slot). ForSome o (IsOpenSlot image wp)) (sym (s.through page lt e))
        (filled_so image wp side write_protected (get set page) (tested page e))
    by false e = within_open image wp (new page) (old page) (s.others page lt e) (h page lt)

-- nothing is kept
pub none_open : (image : Image) (wp : Bool) (slots : ℕ → Option Slot) → ((page : ℕ) → page < 2 ^ 20 → slots page ≡ None)
    → AreOpen image wp slots
none_open image wp slots none page lt = λ slot e. absurd (none_some slot (sym (none page lt) ∙ e))

pub no_slot : (o : Option Slot) → entry_in o ≡ None → o ≡ None
no_slot None h = refl
no_slot (Some slot) h = absurd (none_some slot.entry (sym h))

pub empty_open : (image : Image) (wp : Bool) (slots : ℕ → Option Slot)
    → ((page : ℕ) → page < 2 ^ 20 → get (entries_of slots) page ≡ entry_in (slots page)) → entries_of slots ≡ empty → AreOpen image wp slots
empty_open image wp slots at is =
    none_open image wp slots
    (λ page lt. no_slot (slots page) (sym (at page lt) ∙ (ap (λ (set : FinMap nat_cmp Entry). get set page) is ∙ get-empty nat_cmp page)))

-- a page is gone
pub turned_open : (image : Image) (wp : Bool) (old new : ℕ → Option Slot) (gone : ℕ) → Turns old new gone None → AreOpen image wp old
    → AreOpen image wp new
turned_open image wp old new gone t h page lt = by (page == gone) refl
  where
    by : (b : Bool) → (page == gone) ≡ b → ForSome (new page) (IsOpenSlot image wp)
    by true e = λ slot there.
        let same = eqb-true page gone e in
        absurd (none_some slot (sym (ap new same ∙ t.there) ∙ there))
    by false e =
        let other : page ≡ gone → ⊥ = λ same. let f = eq-eqb page gone same in absurd (let g : true ≡ false = sym f ∙ e in cc) in
        subst (λ (o : Option Slot). ForSome o (IsOpenSlot image wp)) (sym (t.others page lt other)) (h page lt)

-- the pages of a directory index are gone
pub lost_open : (image : Image) (wp : Bool) (old new : ℕ → Option Slot) (index : ℕ) → LosesDir old new index → AreOpen image wp old
    → AreOpen image wp new
lost_open image wp old new index t h page lt =
    elim (eqb_tells (page / 1024) index) [
      | inl same ↦ λ slot there. absurd (none_some slot (sym (t.gone page lt same.1) ∙ there))
      | inr other ↦ subst (λ (o : Option Slot). ForSome o (IsOpenSlot image wp)) (sym (t.others page lt other.1)) (h page lt)
    ]

-- what is kept stays the same
pub same_open : (image : Image) (wp : Bool) (old new : ℕ → Option Slot) → ((page : ℕ) → page < 2 ^ 20 → new page ≡ old page)
    → AreOpen image wp old → AreOpen image wp new
same_open image wp old new same h page lt = subst (λ (o : Option Slot). ForSome o (IsOpenSlot image wp)) (sym (same page lt)) (h page lt)

-- some of it is gone
pub some_open : (image : Image) (wp : Bool) (old new : ℕ → Option Slot)
    → ((page : ℕ) → page < 2 ^ 20 → (new page ≡ None) ⊎ (new page ≡ old page)) → AreOpen image wp old → AreOpen image wp new
some_open image wp old new each h page lt =
    elim (each page lt) [
      | inl none ↦ λ slot e. absurd (none_some slot (sym none ∙ e))
      | inr same ↦ subst (λ (o : Option Slot). ForSome o (IsOpenSlot image wp)) (sym same) (h page lt)
    ]
