-- What a judgement and the notes of a run say, of all runs.
use Rattle.std.specs.Prelude.{◌≡◌, ℕ, ◌≤◌, ◌<◌, ◌^◌, List, length}
use Rattle.ia32_types.specs.declared.stop.Stop.{Stop}
use Rattle.board.specs.Scripts.{Events}
use Rattle.image_check.specs.Image.{Image}
use Rattle.run_trace.specs.Notes.{Note}
use Rattle.run_trace.specs.declared.items.End.{End}
use Rattle.run_trace.specs.Text.{text_of}
use Rattle.machine_model.specs.State.{Setting, State, boot, wedge}
use Rattle.machine_model.specs.Step.{Report}
use Rattle.machine_model.specs.Run.{Set, Run, trace_of}
use Rattle.machine_model.specs.Notes.{AreTold, AreNotes}
use Rattle.trace_check.specs.declared.list.Choice.{Choice}
use Rattle.trace_check.specs.declared.answer.Verdict.TheVariants.{Yes, YesBefore}
use Rattle.trace_check.specs.Form.{AreChoices, most_choices}
use Rattle.trace_check.specs.ChoicesTold.{choices_of}
use Rattle.trace_check.specs.Judged.{judged}
use Rattle.trace_check.specs.Runs.{IsRunText, AreItemsBefore, verdict_of, StopsTold}

-- Where the judgement is yes, the run of the bare machine that follows the choices has the text.
abbrev pub YesIsARun : Type 0
YesIsARun =
    (image : Image) (script : Events) (frames n : ℕ) (list : List Choice) (text : List ℕ)
    → judged image script frames n list text ≡ Yes → IsRunText image script frames n list text

-- Where it is yes before a stop, a run of the bare machine by the choices has the items, in as many steps; the stop isn't
-- judged.
abbrev pub YesBeforeIsSteps : Type 0
YesBeforeIsSteps =
    (image : Image) (script : Events) (frames n : ℕ) (list : List Choice) (text : List ℕ) (stop : Stop)
    → judged image script frames n list text ≡ YesBefore stop → AreItemsBefore image script frames n list stop text

-- The text of a run under a monitor's rules is judged yes by the choices that its notes report, or yes before a stop of the
-- monitor's own. (A bound is at most 2 ^ 40, as of every run.)
abbrev pub NotesAreJudged : Type 0
NotesAreJudged =
    (image : Image) (script : Events) (frames n : ℕ) (sets : List Set) (reports : List Report) (last : State)
    (end : End) (notes : List Note)
    → n ≤ 2 ^ 40
    → Run (wedge image script frames) n (boot (wedge image script frames)) sets reports last end
    → AreTold (wedge image script frames) (boot (wedge image script frames)) sets notes
    → StopsTold (wedge image script frames) last notes end
    → judged image script frames n (choices_of notes) (text_of (trace_of reports) last.step end) ≡ verdict_of end

-- The choices that a run's notes report have the form of a file, where they are few enough.
abbrev pub NotesAreChoices : Type 0
NotesAreChoices =
    (m : Setting) (old : State) (sets : List Set) (last : ℕ) (notes : List Note)
    → last < 2 ^ 64 → length notes ≤ most_choices → AreNotes m old sets last notes → AreChoices (choices_of notes)
