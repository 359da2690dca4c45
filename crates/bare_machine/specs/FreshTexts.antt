-- What is put of a run before each step of which nothing is cached.
use Rattle.std.specs.Prelude.{◌≡◌, ℕ, ◌≤◌, List, Option, Result, Ok, Err, ◌<◌}
use Rattle.pv_io.specs.declared.answer.Failed.{Failed}
use Rattle.pv_io.specs.Causes.{Rose}
use Rattle.pv_io.specs.Sink.{Appends, AppendsFront}
use Rattle.board.specs.Scripts.{Events}
use Rattle.image_check.specs.Image.{Image}
use Rattle.image_load.specs.Boot.{need}
use Rattle.image_load.specs.declared.fault.RunFault.{RunFault}
use Rattle.image_load.specs.declared.fault.RunFault.TheVariants as fault
use Rattle.run_trace.specs.declared.items.End.{End}
use Rattle.run_trace.specs.declared.items.Ended.{Ended}
use Rattle.run_trace.specs.Text.{lines_of}
use Rattle.machine_model.specs.Step.{Report}
use Rattle.machine_model.specs.Run.{trace_of}
use Rattle.bare_machine.specs.FreshRuns.{Course, course_text, fresh_run}

-- the course has ended, and the lines of its steps were put
pub record Comes (c : Course) (count : ℕ) (end : End) (told tells : Option (List ℕ)) : Type 0 where
  pub reports : List Report
  pub course : c ≡ record { reports = reports; count = count; end = end }
  pub text : Appends told tells (lines_of (trace_of reports))

-- all steps of a course were done and the sink's count of faults is as it was, or the sink failed, has taken a front of the
-- course's text, and its count rose
abbrev pub StepsAs : Course → ℕ → Option (List ℕ) → Option (List ℕ) → ℕ → ℕ → Result End Failed → Type 0
StepsAs c count old new before now (Ok end) = Comes c count end old new × (now ≡ before)
StepsAs c count old new before now (Err failed) = AppendsFront old new (course_text c) × Rose before now

-- the answer of a run of this course: its text was put and the sink's count of faults is as it was, or a front of the text
-- was put where the sink failed, and the count rose
abbrev pub CourseAs : Course → Option (List ℕ) → Option (List ℕ) → ℕ → ℕ → Result Ended RunFault → Type 0
CourseAs c old new before now (Ok ended) =
    (ended ≡ record { steps = c.count; end = c.end; fills = 0 }) × Appends old new (course_text c) × (now ≡ before)
CourseAs c old new before now (Err fault.Write) = AppendsFront old new (course_text c) × Rose before now
CourseAs c old new before now (Err (fault.TooSmall small)) = ⊥
CourseAs c old new before now (Err fault.Memory) = ⊥

-- the same of a whole run of an image, which may not begin
abbrev pub CourseAnswers : Image → ℕ → Course → Option (List ℕ) → Option (List ℕ) → ℕ → ℕ → Result Ended RunFault → Type 0
CourseAnswers image frames c old new before now (Ok ended) = (need image ≤ frames) × CourseAs c old new before now (Ok ended)
CourseAnswers image frames c old new before now (Err fault.Write) = (need image ≤ frames) × CourseAs c old new before now (Err fault.Write)
CourseAnswers image frames c old new before now (Err (fault.TooSmall small)) =
    (frames < need image) × (small ≡ record { need = need image; have = frames }) × (new ≡ old) × (now ≡ before)
CourseAnswers image frames c old new before now (Err fault.Memory) = (new ≡ old) × (now ≡ before)

-- of the run before each step of which nothing is cached
abbrev pub FreshAnswers : Image → Events → ℕ → ℕ → Option (List ℕ) → Option (List ℕ) → ℕ → ℕ → Result Ended RunFault → Type 0
FreshAnswers image script frames n old new before now result =
    CourseAnswers image frames (fresh_run image script frames n) old new before now result
