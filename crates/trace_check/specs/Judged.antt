-- What is said of a text and of choices: whether the run that follows the choices has the text.
use Rattle.std.specs.Prelude.{ℕ, List, length, Option, Some, None}
use Rattle.ia32_types.specs.declared.stop.Stop.{Stop}
use Rattle.board.specs.Scripts.{Events}
use Rattle.image_check.specs.Image.{Image}
use Rattle.run_trace.specs.declared.items.End.{End}
use Rattle.run_trace.specs.declared.items.End.TheVariants.{Bound, Stopped}
use Rattle.run_trace.specs.Text.{lines_of, text_of}
use Rattle.machine_model.specs.Run.{trace_of}
use Rattle.trace_check.specs.declared.list.Choice.{Choice}
use Rattle.trace_check.specs.declared.answer.CourseEnd.{CourseEnd}
use Rattle.trace_check.specs.declared.answer.CourseEnd.TheVariants.{Ended, BadAt}
use Rattle.trace_check.specs.declared.answer.Verdict.{Verdict}
use Rattle.trace_check.specs.declared.answer.Verdict.TheVariants.{Yes, YesBefore, BadEntry, Differs}
use Rattle.trace_check.specs.Lines.{lines, last_of, before_last, differing, steps_told, stop_told}
use Rattle.trace_check.specs.Courses.{Course, course_of}

-- the first line that differs is reported, and another verdict where none does
abbrev pub unless_differs : Option ℕ → Verdict → Verdict
unless_differs None verdict = verdict
unless_differs (Some line) verdict = Differs line

-- of a whole text
abbrev pub judged_whole : List ℕ → Course → CourseEnd → Verdict
judged_whole text c (BadAt at) = BadEntry at
judged_whole text c (Ended end) = unless_differs (differing 1 (lines (text_of (trace_of c.reports) c.count end)) (lines text)) Yes

-- Of a text whose last line reports such a stop. The last lines are not compared; a run that stopped before differs there.
abbrev pub judged_end : Stop → List ℕ → End → Verdict
judged_end stop text Bound = YesBefore stop
judged_end stop text (Stopped other) = Differs (length (lines text))

abbrev pub judged_before : Stop → List ℕ → Course → CourseEnd → Verdict
judged_before stop text c (BadAt at) = BadEntry at
judged_before stop text c (Ended end) =
    unless_differs (differing 1 (lines (lines_of (trace_of c.reports))) (before_last (lines text))) (judged_end stop text end)

-- by the stop that the last line reports: the run goes to the step that would stop, or else to the n steps
abbrev pub judged_by : Image → Events → ℕ → ℕ → List Choice → List ℕ → Option Stop → Verdict
judged_by image script frames n list text None =
    let c = course_of image script frames n list in judged_whole text c c.end
judged_by image script frames n list text (Some stop) =
    let c = course_of image script frames (steps_told (last_of (lines text))) list in judged_before stop text c c.end

unfoldable pub judged : Image → Events → ℕ → ℕ → List Choice → List ℕ → Verdict
judged image script frames n list text = judged_by image script frames n list text (stop_told n (last_of (lines text)))
