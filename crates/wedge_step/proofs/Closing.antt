-- What is kept after a step whose pages were settled, or for which frames lacked.
use Rattle.std.proofs.Common.{◌≡◌, ℕ, ◌+◌, ◌≤◌, ◌<◌, ◌^◌, List, length, Bool, true, false, Option, Some, None, refl, ap, subst, arith}
use Rattle.std.specs.Prelude.{MatchOption, IfSome, IsSome, is_none}
use Rattle.std.specs.FinMap.{get, empty, len}
use Rattle.image_check.specs.Image.{Image}
use Rattle.image_load.specs.Boot.{text_pages}
use Rattle.shadow_tables.specs.Entries.{entries_of}
use Rattle.guest_ram.specs.Among.{is_among}
use Rattle.shadow_tables.specs.Slots.{Slot, barred, entry_in}
use Rattle.shadow_tables.specs.declared.words.Side.{Side}
use Rattle.step_mem.specs.Changes.{AreToldIn, changed}
use Rattle.step_mem.specs.declared.changes.Change.{Change}
use Rattle.wedge_mem.specs.Settled.{HasRoom, IsFillCount, Settles}
use Rattle.machine_model.specs.Run.{Set}
use Rattle.wedge_step.specs.Closed.{MayClose, Closes}
use Rattle.wedge_step.specs.Opened.{is_entry_open}
use Rattle.wedge_step.specs.Parts.{left_of}
use Rattle.wedge_step.specs.Standing.{AreOpen}
use Rattle.wedge_step.proofs.Filling.{changed_filled}
use Rattle.wedge_step.proofs.Opening.{settled_open, empty_open}
use Rattle.wedge_step.proofs.UsedPages.{filled_few}

pub settled_left : (new set : Set) (result : Option ℕ) → MatchOption result (new ≡ empty) (λ n. new ≡ set)
    → new ≡ left_of (is_none result) set
settled_left new set None is = is
settled_left new set (Some n) is = is

module _ (old new : ℕ → Option Slot) (set : Set) (pages : List ℕ) (side : Side) (wp : Bool) (write_protected : List ℕ) where
  pub settled_shows : (image : Image) (count : ℕ) (result : Option ℕ)
      → MatchOption result (entries_of new ≡ empty) (λ n. entries_of new ≡ set)
      → IfSome result (λ n. Settles old new set pages side wp write_protected)
      → ((page : ℕ) → page < 2 ^ 20 → get (entries_of new) page ≡ entry_in (new page))
      → ((page : ℕ) → is_among page pages ≡ true → is_entry_open count side (get set page) ≡ true) → count ≡ text_pages image
      → AreOpen image wp old → AreOpen image wp new
  settled_shows image count None is kept at tested count_is h = empty_open image wp new at is
  settled_shows image count (Some n) is kept at tested count_is h =
      settled_open image wp old new set pages side write_protected kept
      (λ page e. subst (λ (k : ℕ). is_entry_open k side (get set page) ≡ true) count_is (tested page e)) h

  pub settled_whole : (count free : ℕ) (wrote : List ℕ) (result : Option ℕ) → HasRoom set pages free result
      → MatchOption result (entries_of new ≡ empty) (λ n. entries_of new ≡ set)
      → IfSome result (λ n. Settles old new set pages side wp write_protected)
      → (IsSome result → (frame : ℕ) → is_among frame wrote ≡ true → is_among frame write_protected ≡ false)
      → MayClose count side set pages free → (is_none result ≡ false) × Closes old new set pages side wp write_protected wrote
  settled_whole count free wrote None few is kept unprotected may = let room = may.room in absurd (omega (arith, room, few))
  settled_whole count free wrote (Some n) few is kept unprotected may =
      (refl, record { settles = kept; unprotected = unprotected refl; entries = is })

-- how many pages were filled, of those that the step went through
module _ (kept : ℕ → Option Slot) (old : Set) (changes : List Change) (tables visited : List ℕ) (side : Side) (wp : Bool) where
  abbrev Count : ℕ → Type 0
  Count n = IsFillCount kept (changed old changes) changes tables visited side wp n

  pub settled_few : (result : Option ℕ) → IfSome result (λ n. Count n) → length visited ≤ 128 → IfSome result (λ n. n ≤ 128)
  settled_few None count enough = tt
  settled_few (Some n) count enough =
      let is = count.exact in
      let few = filled_few (λ page. barred count.lost (kept page)) (changed old changes) changes side wp visited in
      omega (arith, is, few, enough)

  pub settled_filled : (new : Set) (result : Option ℕ) → AreToldIn visited changes → IfSome result (λ n. Count n)
      → MatchOption result (new ≡ empty) (λ n. new ≡ changed old changes)
      → IfSome result (λ n. len new ≤ len old + n)
  settled_filled new None told count is = tt
  settled_filled new (Some n) told count is =
      let few = changed_filled (λ page. barred count.lost (kept page)) old changes side wp visited told in
      let same = ap (λ (set : Set). len set) is in
      let all = count.exact in
      omega (arith, few, same, all)
