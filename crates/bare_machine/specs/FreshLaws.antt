-- That the course of a run before each step of which nothing is cached is a run.
use Rattle.std.specs.Prelude.{◌≡◌, ℕ, ◌-◌, ◌≤◌, length, replicate}
use Rattle.std.specs.FinMap.{empty}
use Rattle.machine_model.specs.State.{Setting, State}
use Rattle.machine_model.specs.Run.{Run}
use Rattle.bare_machine.specs.FreshRuns.{Course, fresh_course}

-- some last state makes it a run, in which the set before each step is empty
pub record IsFreshRun (s : Setting) (n : ℕ) (old : State) (c : Course) : Type 0 where
  pub last : State
  pub run : Run s n old (replicate (length c.reports) empty) c.reports last c.end
  pub count_is : c.count ≡ last.step

abbrev pub EachCourseIsARun : Type 0
EachCourseIsARun = (s : Setting) (n : ℕ) (old : State) → old.step ≤ n → IsFreshRun s n old (fresh_course s (n - old.step) old)
