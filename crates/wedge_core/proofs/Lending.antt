-- What the shadows' views lend of a set that has their entries.
use Rattle.std.proofs.Common.{◌≡◌, ℕ, ◌/◌, ◌<◌, ◌^◌, Bool, true, false, not, List, length, Option, Some, None, refl, sym, ap, subst, ◌∙◌, cond}
use Rattle.std.specs.Prelude.{nat_le}
use Rattle.std.specs.Option.{ForSome}
use Rattle.std.specs.FinMap.{get}
use Rattle.std.proofs.lemmas.Bool.{and_parts}
use Rattle.paging.specs.Fresh.{allows}
use Rattle.paging.specs.Reached.{reached}
use Rattle.shadow_tables.specs.Entries.{entries_of}
use Rattle.shadow_tables.specs.Host.{lent, frame_below}
use Rattle.shadow_tables.specs.Slots.{Slot, is_side, is_user, is_adequate, entry_in}
use Rattle.shadow_tables.specs.declared.words.Side.{Side}
use Rattle.shadow_tables.specs.declared.words.Side.TheVariants.{Kernel, User}
use Rattle.shadow_tables.proofs.Sides.{side-is}
use Rattle.step_mem.specs.Changes.{AreWithin}
use Rattle.machine_model.specs.State.{Setting}
use Rattle.machine_model.specs.Run.{Set}
use Rattle.native_steps.specs.Lends.{Lends, IsLent, IsOpen}
use Rattle.wedge_step.specs.Parts.{IsPartOf}
use Rattle.wedge_step.specs.Standing.{is_kernel, lets, IsOpenSlot, AreOpen}
use Rattle.wedge_step.proofs.Bools.{none_some}

user_of : (side : Side) → is_user side ≡ not (is_kernel side)
user_of Kernel = refl
user_of User = refl

some_frame : (a b : ℕ) → Some a ≡ Some b → a ≡ b
some_frame a b h = cc

-- one slot that is adequate
slot_lends : (m : Setting) (side : Side) (wp : Bool) (set : Set) (write : Bool) (page : ℕ) (slot : Slot) → IsOpenSlot m.image wp slot
    → get set page ≡ Some slot.entry → slot.entry.page ≡ page → slot.entry.frame < m.frames
    → slot.side ≡ side → lets slot write ≡ true → IsLent m (is_kernel side) wp set write page slot.entry.frame
slot_lends m side wp set write page slot has_tables_under kept page_is within side_is lets_it = record {
  entry = slot.entry;
  kept = kept;
  frame_is = refl;
  allowed = ap (λ (u : Bool). allows slot.entry (record { write = write; user = u }) wp) (sym (ap is_user side_is ∙ user_of side))
      ∙ has_tables_under.allowed write lets_it;
  within = within;
  is_open = subst (λ (s : Side). IsOpen (is_kernel s) m.image page slot.entry.frame) side_is
      (subst (λ (p : ℕ). IsOpen (is_kernel slot.side) m.image p slot.entry.frame) page_is (has_tables_under.leads write lets_it));
}

by_below : (m : Setting) (side : Side) (wp : Bool) (set : Set) (write : Bool) (page n f : ℕ) → IsLent m (is_kernel side) wp set write page f
    → (b : Bool) → ForSome (cond b None (Some f)) (IsLent m (is_kernel side) wp set write page)
by_below m side wp set write page n f h true = λ g e. absurd (none_some g e)
by_below m side wp set write page n f h false = λ g e. subst (IsLent m (is_kernel side) wp set write page) (some_frame f g e) h

by_slot : (m : Setting) (side : Side) (wp : Bool) (set : Set) (write : Bool) (page n : ℕ) (slot : Slot) → IsOpenSlot m.image wp slot
    → get set page ≡ Some slot.entry → slot.entry.page ≡ page → slot.entry.frame < m.frames
    → (b : Bool) → is_adequate (Some slot) side write ≡ b → ForSome (cond b (frame_below n slot.entry.frame) None)
    (IsLent m (is_kernel side) wp set write page)
by_slot m side wp set write page n slot has_tables_under kept page_is within false e = λ g h. absurd (none_some g h)
by_slot m side wp set write page n slot has_tables_under kept page_is within true e =
    let parts = and_parts (is_side slot.side side) (lets slot write) e in
    by_below m side wp set write page n slot.entry.frame
    (slot_lends m side wp set write page slot has_tables_under kept page_is within (side-is slot.side side parts.0) parts.1)
    (nat_le n slot.entry.frame)

by_kept : (m : Setting) (side : Side) (wp : Bool) (set : Set) (write : Bool) (page n : ℕ) (o : Option Slot)
    → ForSome o (IsOpenSlot m.image wp) → ForSome (entry_in o) (λ e. (get set page ≡ Some e) × (e.page ≡ page) × (e.frame < m.frames))
    → ForSome (lent n o side write) (IsLent m (is_kernel side) wp set write page)
by_kept m side wp set write page n None has_tables_under h = λ g e. absurd (none_some g e)
by_kept m side wp set write page n (Some slot) has_tables_under h =
    let parts = h slot.entry refl in
    by_slot m side wp set write page n slot (has_tables_under slot refl) parts.0 parts.1 parts.2 (is_adequate (Some slot) side write) refl

-- all of them
pub lends_of : (m : Setting) (memory : List ℕ) (root : ℕ) (side : Side) (wp : Bool) (slots : ℕ → Option Slot) (set : Set)
    → ((page : ℕ) (write : Bool) → page < 2 ^ 20 → reached memory (length memory / 4096) root page write ≡ lent (length memory / 4096)
    (slots page) side write)
    → ((page : ℕ) → page < 2 ^ 20 → get (entries_of slots) page ≡ entry_in (slots page))
    → AreWithin m.frames (entries_of slots) → AreOpen m.image wp slots → IsPartOf (entries_of slots) set
    → Lends m memory root (is_kernel side) wp set
lends_of m memory root side wp slots set host at within has_tables_under part = record {
  each = λ page lt write.
      let kept : ForSome (entry_in (slots page)) (λ e. (get set page ≡ Some e) × (e.page ≡ page) × (e.frame < m.frames)) =
      λ e is. let here : get (entries_of slots) page ≡ Some e =
      at page lt ∙ is in (part.each page e here, (within page e here).0, (within page e here).1) in
      subst (λ (o : Option ℕ). ForSome o (IsLent m (is_kernel side) wp set write page)) (sym (host page write lt))
      (by_kept m side wp set write page (length memory / 4096) (slots page) (has_tables_under page lt) kept);
}
