-- What a monitor may report of the translations that a run uses: that all of them, or that of one page, were dropped
-- before a step. With notes reported, nothing else changes them between two steps.
use Rattle.std.specs.Prelude.{◌≡◌, ℕ, ◌≤◌, ◌<◌, ◌^◌, Bool, true, false, ◌==◌, ◌&&◌, nat_le, List, [], ◌∷◌, ◌++◌, length, if◌then◌else◌, IsSome}
use Rattle.std.specs.List.{list_any, filter, All}
use Rattle.std.specs.FinMap.{get, empty, remove}
use Rattle.run_trace.specs.Notes.{Note, emptied_at, dropped_at}
use Rattle.machine_model.specs.State.{Setting, State}
use Rattle.machine_model.specs.Run.{Set}
use Rattle.machine_model.specs.Taken.{Taken, steps_by}

abbrev pub step_in : Note → ℕ
step_in (emptied_at step) = step
step_in (dropped_at step page) = step

abbrev pub is_emptied : ℕ → Note → Bool
is_emptied step (emptied_at s) = s == step
is_emptied step (dropped_at s page) = false

abbrev pub is_dropped : ℕ → ℕ → Note → Bool
is_dropped step page (emptied_at s) = false
is_dropped step page (dropped_at s p) = s == step && p == page

-- the set without the pages that were dropped before the step
abbrev pub without : ℕ → Set → List Note → Set
without step set [] = set
without step set (emptied_at s ∷ notes) = without step set notes
without step set (dropped_at s page ∷ notes) = without step (if s == step then remove set page else set) notes

-- the set before a step, from the one that the step before left
abbrev pub set_told : List Note → ℕ → Set → Set
set_told notes step left = if list_any (is_emptied step) notes then empty else without step left notes

-- the sets of a run are those that its notes report
pub record AreTold (m : Setting) (old : State) (sets : List Set) (notes : List Note) : Type 0 where
  pub each : (earlier : List Taken) (now : Taken) (later : List Taken) → steps_by m old sets ≡ earlier ++ now ∷ later
      → now.set ≡ set_told notes now.before.step now.before.set

-- steps that don't fall
abbrev pub is_ordered : ℕ → List Note → Bool
is_ordered low [] = true
is_ordered low (note ∷ notes) = nat_le low (step_in note) && is_ordered (step_in note) notes

abbrev pub IsPage : Note → Type 0
IsPage (emptied_at step) = Unit {0}
IsPage (dropped_at step page) = page < 2 ^ 20

-- Of steps from `first` up to but not including `last`: the notes stand in the order of their steps, which lie from the
-- first to the one after the last; their pages are pages; at most 64 are reported for a step; and a page is dropped before
-- a step only where the set that was left holds it, and once.
pub record AreNotes (m : Setting) (old : State) (sets : List Set) (last : ℕ) (notes : List Note) : Type 0 where
  pub ordered : is_ordered old.step notes ≡ true
  pub until : All (λ note. step_in note ≤ last) notes
  pub pages : All IsPage notes
  pub few : (step : ℕ) → length (filter (λ note. step_in note == step) notes) ≤ 64
  pub once : (step page : ℕ) → length (filter (is_dropped step page) notes) ≤ 1
  pub held : (earlier : List Taken) (now : Taken) (later : List Taken) (page : ℕ) → steps_by m old sets ≡ earlier ++ now ∷ later
      → list_any (is_dropped now.before.step page) notes ≡ true → IsSome (get now.before.set page)
