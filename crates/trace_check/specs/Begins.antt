-- What is known of the parts of a replay.
use Rattle.std.specs.Prelude.{◌≡◌, ℕ, ◌≤◌, List, Option, None, Some, Result, Ok, Err}
use Rattle.ia32_types.specs.declared.stop.Stop.{Stop}
use Rattle.board.specs.Scripts.{Events}
use Rattle.image_check.specs.Image.{Image}
use Rattle.image_load.specs.Boot.{need}
use Rattle.run_trace.specs.declared.items.End.{End}
use Rattle.run_trace.specs.declared.items.End.TheVariants.{Bound, Stopped}
use Rattle.run_trace.specs.Text.{lines_of}
use Rattle.machine_model.specs.State.{boot}
use Rattle.machine_model.specs.Run.{Set, trace_of}
use Rattle.bare_machine.specs.Machine.{state_of, IsKept}
use Rattle.bare_machine.specs.Settings.{bare}
use Rattle.bare_machine.specs.declared.machine.BareMachine as machines
use Rattle.trace_check.specs.declared.list.Choice.{Choice}
use Rattle.trace_check.specs.declared.answer.CourseEnd.{CourseEnd}
use Rattle.trace_check.specs.declared.answer.CourseEnd.TheVariants.{Ended, BadAt}
use Rattle.trace_check.specs.declared.answer.Verdict.{Verdict}
use Rattle.trace_check.specs.declared.answer.Verdict.TheVariants.{YesBefore, BadEntry, Differs}
use Rattle.trace_check.specs.declared.answer.ReplayFault.{ReplayFault}
use Rattle.trace_check.specs.Lines.{lines, differing}
use Rattle.trace_check.specs.Matches.{line_behind}
use Rattle.trace_check.specs.Courses.{Course, course_of}
use Rattle.trace_check.specs.Judged.{unless_differs, judged_whole}
use Rattle.trace_check.specs.Replayed.{ReplayFails}

-- the set that a machine with a whole set uses
abbrev pub whole_entries : Set → Set
whole_entries set = set

-- the machine stands where every run begins
abbrev pub BeginsAs : Image → ℕ → Result (machines.BareMachine Set) ReplayFault → Type 0
BeginsAs image frames (Ok machine) =
    (need image ≤ frames) × (machine.frames ≡ frames) × (machine.step ≡ 0) × IsKept machine.frames (state_of whole_entries machine)
    × ((script : Events) → state_of whole_entries machine ≡ boot (bare image script frames))
BeginsAs image frames (Err fault) = ReplayFails image frames fault

-- how the course of choices ends
abbrev pub EndsAlone : Image → Events → ℕ → ℕ → List Choice → Result CourseEnd ReplayFault → Type 0
EndsAlone image script frames n list (Ok end) = (need image ≤ frames) × ((course_of image script frames n list).end ≡ end)
EndsAlone image script frames n list (Err fault) = ReplayFails image frames fault

-- a verdict on a text that differs at a line
abbrev pub by_end : CourseEnd → ℕ → Verdict
by_end (BadAt at) line = BadEntry at
by_end (Ended end) line = Differs line

abbrev pub DiffersUnlessBad : Image → Events → ℕ → ℕ → List Choice → ℕ → Result Verdict ReplayFault → Type 0
DiffersUnlessBad image script frames n list line (Ok verdict) =
    (need image ≤ frames) × (verdict ≡ by_end (course_of image script frames n list).end line)
DiffersUnlessBad image script frames n list line (Err fault) = ReplayFails image frames fault

abbrev pub end_verdict : End → Stop → ℕ → Verdict
end_verdict Bound stop line = YesBefore stop
end_verdict (Stopped other) stop line = Differs line

-- the verdict on the front of a text, whose last line reports this stop
abbrev pub before_by : Stop → List ℕ → Course → CourseEnd → Verdict
before_by stop front c (BadAt at) = BadEntry at
before_by stop front c (Ended end) =
    unless_differs (differing 1 (lines (lines_of (trace_of c.reports))) (lines front)) (end_verdict end stop (line_behind front))

-- the verdict on a whole text, or on such a front
abbrev pub verdict_on : List ℕ → Option Stop → Course → Verdict
verdict_on text None c = judged_whole text c c.end
verdict_on text (Some stop) c = before_by stop text c c.end

-- that verdict, or the line at which the text differs before the course's end
abbrev pub ComparesAs : List ℕ → Option Stop → Course → Result Verdict ℕ → Type 0
ComparesAs text told c (Ok verdict) = verdict ≡ verdict_on text told c
ComparesAs text told c (Err line) = by_end c.end line ≡ verdict_on text told c

abbrev pub JudgesAs : Image → Events → ℕ → ℕ → List Choice → List ℕ → Option Stop → Result Verdict ReplayFault → Type 0
JudgesAs image script frames n list text told (Ok verdict) =
    (need image ≤ frames) × (verdict ≡ verdict_on text told (course_of image script frames n list))
JudgesAs image script frames n list text told (Err fault) = ReplayFails image frames fault
