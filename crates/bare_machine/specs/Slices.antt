-- What a slice of a run says.
use Rattle.std.specs.Prelude.{◌≡◌, ℕ, ◌≤◌, ◌<◌, Bool, true, List, Option, Result, Ok, Err}
use Rattle.pv_io.specs.declared.answer.Failed.{Failed}
use Rattle.run_trace.specs.declared.pause.Pause.{Pause}
use Rattle.run_trace.specs.declared.pause.Pause.TheVariants.{Reached, Stopped}
use Rattle.run_trace.specs.Text.{lines_of}
use Rattle.paging.specs.Part.{IsPartOf}
use Rattle.machine_model.specs.State.{Setting, State}
use Rattle.machine_model.specs.Step.{Report, Went, Halts, step_of}
use Rattle.machine_model.specs.Run.{Set, trace_of, with_set}
use Rattle.bare_machine.specs.Machine.{Passes}
use Rattle.run_trace.specs.Pauses.{PutsAs}

-- All steps were done, or the next one would stop with what is cached. The sink may fail before.
abbrev pub PausesAs : Setting → ℕ → State → State → Result Pause Failed → Type 0
PausesAs s bound last new (Ok Reached) = (last.step ≡ bound) × (new ≡ last)
PausesAs s bound last new (Ok (Stopped stop)) = (last.step < bound) × (new.step ≡ last.step) × (step_of s last last.set ≡ Halts stop)
PausesAs s bound last new (Err failed) = last.step ≤ bound

-- Steps up to the bound or to a stop led from the old state to the last, and the lines of what was seen in them were put.
pub record SliceAs (s : Setting) (exact : Bool) (bound : ℕ) (old new : State) (told tells : Option (List ℕ))
    (result : Result Pause Failed) : Type 0 where
  pub reports : List Report
  pub last : State
  pub passes : Passes s exact old reports last
  pub ends : PausesAs s bound last new result
  pub text : PutsAs (lines_of (trace_of reports)) told tells result

-- A slice of one step is the step by what the cache holds. What it leaves is cached then, of which some may have been
-- dropped, but none by an exact cache.
abbrev pub OneStepAs : Setting → Bool → State → State → Result Pause Failed → Type 0
OneStepAs s exact old new (Ok Reached) =
    (report : Report) × (whole : Set) × (step_of s old old.set ≡ Went report (with_set new whole)) × IsPartOf new.set whole
    × (exact ≡ true → new.set ≡ whole)
OneStepAs s exact old new (Ok (Stopped stop)) = step_of s old old.set ≡ Halts stop
OneStepAs s exact old new (Err failed) = Unit {0}
