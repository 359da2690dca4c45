-- What a judgement says of runs of the bare machine, and what notes say of a judgement.
use Rattle.std.specs.Prelude.{◌≡◌, ℕ, ◌≤◌, true, cond, List, [], ◌∷◌, Ok}
use Rattle.ia32_types.specs.declared.stop.Stop.{Stop}
use Rattle.paging.specs.MonitorStops.{is_extra_stop}
use Rattle.board.specs.Scripts.{Events}
use Rattle.image_check.specs.Image.{Image}
use Rattle.run_trace.specs.Notes.{Note}
use Rattle.run_trace.specs.declared.items.End.{End}
use Rattle.run_trace.specs.declared.items.End.TheVariants.{Bound, Stopped}
use Rattle.run_trace.specs.Text.{text_of}
use Rattle.machine_model.specs.State.{Setting, State, boot}
use Rattle.machine_model.specs.Step.{Report, Went, Halts, step_of}
use Rattle.machine_model.specs.Run.{Set, Steps, CanGive, trace_of}
use Rattle.machine_model.specs.Notes.{set_told}
use Rattle.bare_machine.specs.Settings.{bare}
use Rattle.trace_check.specs.declared.list.Choice.{Choice}
use Rattle.trace_check.specs.declared.answer.Verdict.{Verdict}
use Rattle.trace_check.specs.declared.answer.Verdict.TheVariants.{Yes, YesBefore}
use Rattle.trace_check.specs.Courses.{chosen}

-- each step's set is the one that the choices make of what the step before left
abbrev pub AreChosen : Setting → List Choice → State → List Set → Type 0
AreChosen m list old [] = Unit {0}
AreChosen m list old (set ∷ sets) =
    (chosen m old 0 list old.set ≡ Ok set) × ((now : Report) (mid : State) → step_of m old set ≡ Went now mid → AreChosen m list mid sets)

-- and so is that of the step that stops
abbrev pub StopsBy : Setting → List Choice → State → End → Type 0
StopsBy m list last Bound = Unit {0}
StopsBy m list last (Stopped stop) = (set : Set) × (chosen m last 0 list last.set ≡ Ok set) × (step_of m last set ≡ Halts stop)

-- the text is that of the run of at most n steps of the bare machine which follows these choices
pub record IsRunText (image : Image) (script : Events) (frames n : ℕ) (list : List Choice) (text : List ℕ) : Type 0 where
  pub count : ℕ
  pub end : End
  pub given : CanGive (bare image script frames) n text count end
  pub by_choices : AreChosen (bare image script frames) list (boot (bare image script frames)) given.sets
  pub stops : StopsBy (bare image script frames) list given.last end

-- some steps of the bare machine, by these choices, have these items, and the text goes on with a last line that reports the
-- stop after them
pub record AreItemsBefore (image : Image) (script : Events) (frames n : ℕ) (list : List Choice) (stop : Stop) (text : List ℕ) : Type 0 where
  pub sets : List Set
  pub reports : List Report
  pub last : State
  pub steps : Steps (bare image script frames) (boot (bare image script frames)) sets reports last
  pub by_choices : AreChosen (bare image script frames) list (boot (bare image script frames)) sets
  pub within : last.step ≤ n
  pub own : is_extra_stop stop ≡ true
  pub text_is : text ≡ text_of (trace_of reports) last.step (Stopped stop)

-- what is judged of the text of a run under a monitor's rules: where it ended at a stop of the monitor's own, that it is
-- right before it
abbrev pub verdict_of : End → Verdict
verdict_of Bound = Yes
verdict_of (Stopped stop) = cond (is_extra_stop stop) (YesBefore stop) Yes

-- the step that stops uses the set that the notes report
abbrev pub StopsTold : Setting → State → List Note → End → Type 0
StopsTold m last notes Bound = Unit {0}
StopsTold m last notes (Stopped stop) = step_of m last (set_told notes last.step last.set) ≡ Halts stop
