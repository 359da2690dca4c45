-- A kernel's run so far, over all of its turns.
use Rattle.std.specs.Prelude.{◌≡◌, ℕ, ◌*◌, ◌<◌, ◌≤◌, List, [], ◌∷◌, ◌++◌}
use Rattle.std.specs.FinMap.{len}
use Rattle.std.specs.List.{All}
use Rattle.ia32_types.specs.declared.stop.Stop.{Stop}
use Rattle.machine_model.specs.State.{Setting, State, Loosened, boot}
use Rattle.machine_model.specs.Step.{Report}
use Rattle.machine_model.specs.Run.{Set, Steps, StopHolds, with_set}
use Rattle.wedge_core.specs.Promises.{HasFills}

-- steps from the start with these reports, after which the kernel stands in this state: with translations that a run may go on
-- with. So many pages were filled by then.
pub record HasRun (m : Setting) (reports : List Report) (fills : ℕ) (state : State) : Type 0 where
  pub sets : List Set
  pub last : State
  pub end : Set
  pub steps : Steps m (boot m) sets reports last
  pub stands : state ≡ with_set last end
  pub allowed : Loosened m last end
  pub enough : All (λ (set : Set). len set ≤ fills) (sets ++ end ∷ [])
  pub few : fills ≤ 128 * last.step

-- such steps, after which the next one stops, by the set to which the fills are compared
pub record HasStopped (m : Setting) (n : ℕ) (reports : List Report) (fills : ℕ) (stop : Stop) (count : ℕ) : Type 0 where
  pub sets : List Set
  pub last : State
  pub steps : Steps m (boot m) sets reports last
  pub count_is : count ≡ last.step
  pub before : last.step < n
  pub holds : StopHolds m last stop
  pub filled : HasFills m sets last fills
  pub own : filled.end ≡ holds.set
