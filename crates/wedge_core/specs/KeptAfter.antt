-- The rule for kept translations over steps that go on after others, as those of a slice do.
use Rattle.std.specs.Prelude.{◌≡◌, List, ◌∷◌, ◌++◌}
use Rattle.machine_model.specs.State.{Setting, State}
use Rattle.machine_model.specs.Step.{Report}
use Rattle.machine_model.specs.Run.{Set, Steps}
use Rattle.machine_model.specs.Taken.{Taken, steps_by}
use Rattle.machine_model.specs.Keeping.{Roomy, IsKept}

-- The rule holds of each of these sets, which are those of steps one after the other, where the steps in `past` went before them:
-- what is kept is judged by all of these steps, and so is whether the run is roomy. With no steps before them it is `Kept`.
pub record KeptAfter (m : Setting) (past : List Taken) (old : State) (sets : List Set) : Type 0 where
  pub each : (front : List Set) (set : Set) (back : List Set) (reports : List Report) (now : State) → sets ≡ front ++ set ∷ back
      → Steps m old front reports now
      → Roomy (past ++ steps_by m old front) → IsKept m (past ++ steps_by m old front) now set
