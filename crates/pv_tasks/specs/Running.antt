-- The work of `run`: the image, then the script, then the run of both.
use Rattle.std.specs.Prelude.{◌≡◌, ℕ, ◌<◌, ◌≤◌, true, List, Option}
use Rattle.pv_io.specs.Files.{FileMap}
use Rattle.board.specs.Scripts.{Events}
use Rattle.image_check.specs.Image.{Image}
use Rattle.image_load.specs.Boot.{need}
use Rattle.run_trace.specs.declared.items.End.{End}
use Rattle.machine_model.specs.State.{State, boot, wedge}
use Rattle.machine_model.specs.Step.{Report}
use Rattle.machine_model.specs.Run.{Set, Run, stopping}
use Rattle.bare_machine.specs.Runs.{HasRun}
use Rattle.bare_machine.specs.FreshRuns.{course_text}
use Rattle.bare_machine.specs.Buffered.{buffered_run}
use Rattle.pv_build.specs.Lines.{too_small_line}
use Rattle.pv_build.specs.Images.{HasImage}
use Rattle.pv_build.specs.Scripts.{HasScript, NoRun, FindsRun}
use Rattle.pv_words.specs.declared.mode.RunMode.{RunMode}
use Rattle.pv_words.specs.declared.mode.RunMode.TheVariants as mode
use Rattle.pv_tasks.specs.Outcome.{Outcome, refused, ended, ended_on_host}
use Rattle.pv_tasks.specs.Tasks.{Task, plain}

-- a run of the bare machine, with its text: the one with a TLB that is empty at the start
pub record RunsBare (frames n : ℕ) (image : Image) (events : Events) (w : Outcome) : Type 0 where
  pub text : List ℕ
  pub count : ℕ
  pub end : End
  pub run : HasRun image events frames n text count end
  pub text_is : text ≡ course_text (buffered_run image events frames n)
  pub count_is : count ≡ (buffered_run image events frames n).count
  pub end_is : end ≡ (buffered_run image events frames n).end
  pub comes : w ≡ ended end text

-- a run under the monitor's rules, whose direct instructions are the host's
pub record RunsPatched (frames n : ℕ) (image : Image) (events : Events) (w : Outcome) : Type 0 where
  pub sets : List Set
  pub reports : List Report
  pub last : State
  pub end : End
  pub run : Run (wedge image events frames) n (boot (wedge image events frames)) sets reports last end
  pub comes : w ≡ ended_on_host (record { setting = wedge image events frames; sets = sets; reports = reports; last = last; end = end })
      (stopping (wedge image events frames) n last end run.ends)

-- the outcome of a run, or a refusal where the image needs more frames than there are
pub data RunsOn (ran : Outcome → Type 0) (image : Image) (frames : ℕ) (w : Outcome) : Type 0 where
  Ran : need image ≤ frames → ran w → RunsOn ran image frames w
  Small : frames < need image → w ≡ refused (too_small_line (need image) frames) → RunsOn ran image frames w

-- The outcome of the files of an image and a script, where work goes on so with what they hold: that there is nothing to run is
-- reported, or it goes on.
pub data Reads (goes : Image → Events → Outcome → Type 0) (files : Option FileMap) (image script : List ℕ) (w : Outcome)
    : Type 0 where
  Unread : (line : List ℕ) → NoRun files image script line → w ≡ refused line → Reads goes files image script w
  BothRead : (program : Image) (events : Events) → HasImage files image program → HasScript files script events
      → goes program events w → Reads goes files image script w

-- so on a machine whose runs have such outcomes, with so many frames
abbrev pub Runs : (Image → Events → Outcome → Type 0) → ℕ → Option FileMap → List ℕ → List ℕ → Outcome → Type 0
Runs runs frames files image script w = Reads (λ program events. RunsOn (runs program events) program frames) files image script w

-- what `run` asks for on a machine
abbrev pub run_task : RunMode → List ℕ → List ℕ → ℕ → ℕ → Task
run_task mode.Bare image script frames n =
    plain (λ files w. Runs (RunsBare frames n) frames files image script w) (λ files. FindsRun files image script)
run_task mode.Wedge image script frames n =
    record (plain (λ files w. Runs (RunsPatched frames n) frames files image script w) (λ files. FindsRun files image script))
    { on_host = true }
