-- The run before each step of which nothing is cached, as a function of the setting and the state.
use Rattle.std.specs.Prelude.{ℕ, zero, suc, List, [], ◌∷◌}
use Rattle.std.specs.FinMap.{empty}
use Rattle.board.specs.Scripts.{Events}
use Rattle.image_check.specs.Image.{Image}
use Rattle.run_trace.specs.declared.items.End.{End}
use Rattle.run_trace.specs.declared.items.End.TheVariants.{Bound, Stopped}
use Rattle.run_trace.specs.Text.{text_of}
use Rattle.machine_model.specs.State.{Setting, State, boot}
use Rattle.machine_model.specs.Step as steps
use Rattle.machine_model.specs.Step.{Report, Went, Halts, step_of}
use Rattle.machine_model.specs.Run.{trace_of}
use Rattle.bare_machine.specs.Settings.{bare}

-- what a run reports, the count of steps at its end, and how it ends
pub record Course : Type 0 where
  pub reports : List Report
  pub count : ℕ
  pub end : End

-- a step, and what comes after it
abbrev pub after_step : State → steps.Result → (State → Course) → Course
after_step b (Went report new) later = record { reports = report ∷ (later new).reports; count = (later new).count; end = (later new).end }
after_step b (Halts stop) later = record { reports = []; count = b.step; end = Stopped stop }

-- at most so many steps, each with the empty set
unfoldable pub fresh_course : Setting → ℕ → State → Course
fresh_course s zero b = record { reports = []; count = b.step; end = Bound }
fresh_course s (suc k) b = after_step b (step_of s b empty) (λ mid. fresh_course s k mid)

abbrev pub course_text : Course → List ℕ
course_text c = text_of (trace_of c.reports) c.count c.end

-- the image's run of at most n steps from its start
abbrev pub fresh_run : Image → Events → ℕ → ℕ → Course
fresh_run image script frames n = fresh_course (bare image script frames) n (boot (bare image script frames))
