-- What a slice of a patched run says.
use Rattle.std.specs.Prelude.{◌≡◌, ℕ, ◌≤◌, ◌<◌, Bool, true, false, List, [], ◌∷◌, ◌++◌, Option, Result, Ok, Err}
use Rattle.std.specs.List.{All}
use Rattle.std.specs.FinMap.{len, empty}
use Rattle.pv_io.specs.declared.answer.Failed.{Failed}
use Rattle.run_trace.specs.declared.pause.Pause.{Pause}
use Rattle.run_trace.specs.declared.pause.Pause.TheVariants.{Reached, Stopped}
use Rattle.run_trace.specs.Notes.{Note}
use Rattle.run_trace.specs.Text.{lines_of}
use Rattle.machine_model.specs.State.{Setting, State, Loosened}
use Rattle.machine_model.specs.Step.{Report, Halts, step_of}
use Rattle.machine_model.specs.Run.{Set, Steps, trace_of, with_set}
use Rattle.machine_model.specs.Taken.{Taken, steps_by}
use Rattle.machine_model.specs.Keeping.{Roomy, IsLeftBehind}
use Rattle.wedge_step.specs.Filled.{CountsFills}
use Rattle.wedge_step.specs.Scene.{AreAmple}
pub use Rattle.wedge_core.specs.Counts.{Counts, CountsOn, counts_of}
use Rattle.wedge_core.specs.KeptAfter.{KeptAfter}
use Rattle.wedge_core.specs.Noted.{IsNoted}
use Rattle.run_trace.specs.Pauses.{IfReached, PutsAs}

-- All steps were done, and these translations are kept, which a run may go on with; or the next step stops, by these
-- translations, which it may use. The sink may fail before.
abbrev pub PausesAs : Setting → ℕ → State → State → Set → Result Pause Failed → Type 0
PausesAs m bound last new end (Ok Reached) = (last.step ≡ bound) × (new ≡ with_set last end) × Loosened m last end
PausesAs m bound last new end (Ok (Stopped stop)) =
    (last.step < bound) × (new.step ≡ last.step) × Loosened m last end × (step_of m last end ≡ Halts stop)
PausesAs m bound last new end (Err failed) = last.step ≤ bound

-- What is done outside: the host's counts and what the sink has taken, before and after.
pub record Outward : Type 0 where
  pub before : Counts
  pub after : Counts
  pub told : Option (List ℕ)
  pub tells : Option (List ℕ)

-- how many pages are kept at first, and how many were filled before and after
pub record Filling : Type 0 where
  pub pages : ℕ
  pub fills : ℕ
  pub filled : ℕ

-- whether notes are wanted, and which are reported after those that were
pub record Noting : Type 1 where
  pub notes_wanted : Bool
  pub on : List Note → Type 0

-- What is to be known after some steps, so that a slice which goes on after them keeps the rule for kept translations; and what
-- is known after its own steps too, so that the next one does.
pub record Knowing : Type 1 where
  pub before : List Taken → Type 0
  pub after : List Taken → Type 0

-- Steps under the monitor's rules, up to the bound or to a stop, led from the old state to the last. The lines of what
-- was seen in them were put, and the host completed their direct instructions. Where notes are wanted, they use what is
-- left of translations, but for those that these notes report as dropped. Each of their sets, and the one after them, has
-- no more pages than were kept at first and were filled since. Where this is known after some steps in the past, the sets keep
-- the rule for kept translations after those, and so does the one after them: the next step stops by it, or a run may go on
-- with it. Where all steps were done that is what the rule lets be left after them, and what is known while the run is roomy
-- goes on.
pub record SliceAs (m : Setting) (bound : ℕ) (old new : State) (out : Outward) (filling : Filling) (noting : Noting) (knows : Knowing)
    (result : Result Pause Failed) : Type 0 where
  pub sets : List Set
  pub reports : List Report
  pub last : State
  pub end : Set
  pub notes : List Note
  pub steps : Steps m old sets reports last
  pub ends : PausesAs m bound last new end result
  pub text : PutsAs (lines_of (trace_of reports)) out.told out.tells result
  pub counts : CountsOn m reports out.before out.after
  pub told_notes : noting.notes_wanted ≡ true → IsNoted m old new sets last notes result
  pub tells_notes : noting.on notes
  pub each_filled : All (λ (set : Set). CountsFills filling.pages (len set) filling.fills filling.filled) (sets ++ end ∷ [])
  pub kept : (past : List Taken) → knows.before past → KeptAfter m past old (sets ++ end ∷ [])
  pub left : (past : List Taken) → knows.before past
      → IfReached result (Roomy (past ++ steps_by m old sets) → IsLeftBehind m (past ++ steps_by m old sets) last end)
  pub carried : (past : List Taken) → knows.before past
      → IfReached result (Roomy (past ++ steps_by m old sets) → knows.after (past ++ steps_by m old sets))

-- A slice begins with nothing kept, two frames held and ample ones free, and no notes are wanted.
pub record BeginsEmpty (set : Set) (free held : ℕ) (notes_wanted : Bool) : Type 0 where
  pub empty_set : set ≡ empty
  pub two : held ≡ 2
  pub ample : AreAmple free held
  pub silent : notes_wanted ≡ false
