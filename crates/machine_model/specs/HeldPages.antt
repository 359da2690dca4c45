-- Translations are of pages of the address space: those by which the steps of a run go, and those that a step leaves.
use Rattle.std.specs.Prelude.{◌≡◌, ℕ, ◌^◌, ◌<◌, List}
use Rattle.std.specs.List.{All}
use Rattle.std.specs.Option.{ForSome}
use Rattle.std.specs.FinMap.{get}
use Rattle.machine_model.specs.State.{Setting, State, Loosened}
use Rattle.machine_model.specs.Step.{Report, Went, step_of}
use Rattle.machine_model.specs.Run.{Set, Steps}
use Rattle.machine_model.specs.Reloading.{ArePages}

-- each translation is of a page of the address space
abbrev pub HoldsPages : Set → Type 0
HoldsPages set = (page : ℕ) → ForSome (get set page) (λ e. page < 2 ^ 20)

-- A step that uses such translations, and that uses such pages alone, leaves such translations.
abbrev pub StepsLeavePages : Type 0
StepsLeavePages =
    (m : Setting) (b : State) (set : Set) (report : Report) (after : State) → step_of m b set ≡ Went report after → ArePages report.pages
    → HoldsPages set → HoldsPages after.set

-- So where a run begins with such translations, as at its start with none, and its steps use such pages alone, each of them
-- uses such translations, and so does each step that may come next.
abbrev pub RunsHoldPages : Type 0
RunsHoldPages =
    (m : Setting) (old new : State) (sets : List Set) (reports : List Report) → Steps m old sets reports new → HoldsPages old.set
    → All (λ (r : Report). ArePages r.pages) reports
    → All HoldsPages sets × ((set : Set) → Loosened m new set → HoldsPages set)
