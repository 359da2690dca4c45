-- The work of `work`: a kernel is made of a number and built into an image, which is run twice, on the bare machine with
-- nothing cached and patched on a host. What both runs print is compared.
use Rattle.std.specs.Prelude.{◌≡◌, ℕ, true, false, List, [], ◌++◌, Result, Ok, Err}
use Rattle.kernel_gen.specs.Kernels.{kernel_text}
use Rattle.image_check.specs.Image.{Image}
use Rattle.run_trace.specs.declared.items.End.{End}
use Rattle.run_trace.specs.Text.{text_of}
use Rattle.machine_model.specs.State.{Setting, State, boot, wedge}
use Rattle.machine_model.specs.Step.{Report}
use Rattle.machine_model.specs.Run.{Set, Run, stopping, trace_of}
use Rattle.bare_machine.specs.FreshRuns.{fresh_run, course_text}
use Rattle.wedge_core.specs.Promises.{HasOwnFills}
use Rattle.pv_build.specs.Building.{Builds}
use Rattle.pv_build.specs.Comparing.{told_line, compared_line}
use Rattle.pv_tasks.specs.Outcome.{Outcome, refused, compared}
use Rattle.pv_tasks.specs.Running.{RunsOn}
use Rattle.pv_tasks.specs.Tasks.{Task, plain}

-- Both runs have 4,096 frames, at most 100,000 steps, and a script without events.

-- the text of the first run, which is a function of the image
abbrev pub first_text : Image → List ℕ
first_text image = course_text (fresh_run image [] 4096 100000)

-- what the second runs with
abbrev pub second_setting : Image → Setting
second_setting image = wedge image [] 4096

-- a run under the monitor's rules, whose direct instructions are the host's, and the two lines, of which the first gives the
-- pages that were filled in this run
pub record RunsTwice (number : ℕ) (image : Image) (w : Outcome) : Type 0 where
  pub sets : List Set
  pub reports : List Report
  pub last : State
  pub end : End
  pub run : Run (second_setting image) 100000 (boot (second_setting image)) sets reports last end
  pub second : List ℕ
  pub second_is : second ≡ text_of (trace_of reports) last.step end
  pub fills : ℕ
  pub filled : HasOwnFills (second_setting image) 100000 512 sets last end run.ends fills
  pub comes : w ≡ compared (record { setting = second_setting image; sets = sets; reports = reports; last = last; end = end })
      (stopping (second_setting image) 100000 last end run.ends)
      (told_line number image second fills ++ compared_line (first_text image) second)

-- over what the kernel is built into
abbrev pub WorksOn : ℕ → Result Image (List ℕ) → Outcome → Type 0
WorksOn number (Ok image) w = RunsOn (RunsTwice number image) image 4096 w
WorksOn number (Err line) w = w ≡ refused line

-- the outcome of `work` of a number
pub record Works (number : ℕ) (w : Outcome) : Type 0 where
  pub made : Result Image (List ℕ)
  pub builds : Builds (kernel_text number) made
  pub comes : WorksOn number made w

-- what `work` asks for; it may find no memory for what its second run prints, or after it
abbrev pub work_task : ℕ → Task
work_task number = record (plain (λ files w. Works number w) (λ files. Unit {0}))
    { half_done = λ o. o.after.taken ≡ o.before.taken; on_host = true; reads = false }
