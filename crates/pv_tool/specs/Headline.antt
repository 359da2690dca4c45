-- The headline: for every accepted image, every script, memory size and bound n, what `run --wedge` prints is the text of a
-- trace, with step numbers, that the unpatched image can give on the bare machine; it ends after n steps, or at a named stop
-- whose condition holds in the state which that run has reached.
use Rattle.std.specs.Prelude.{◌≡◌, ℕ, List, ◌++◌, Option}
use Rattle.pv_io.specs.Files.{FileMap}
use Rattle.pv_io.specs.Sink.{Appends}
use Rattle.board.specs.Scripts.{Events}
use Rattle.image_check.specs.Image.{Image}
use Rattle.run_trace.specs.declared.items.End.{End}
use Rattle.machine_model.specs.State.{boot, wedge}
use Rattle.machine_model.specs.Run.{Run, stopping}
use Rattle.machine_model.specs.Keeping.{Kept}
use Rattle.machine_model.specs.OnBare.{bound_on_bare, end_on_bare}
use Rattle.bare_machine.specs.Settings.{bare}
use Rattle.wedge_core.specs.Promises.{Promise}
use Rattle.pv_build.specs.Statuses.{status_of}
use Rattle.pv_build.specs.Images.{HasImage}
use Rattle.pv_build.specs.Scripts.{HasScript}
use Rattle.pv_build.specs.declared.status.Status.{Status}
use Rattle.pv_tasks.specs.Outside.{Outside}

-- the names hold an image that is accepted, and a script
pub record HasRunnable (files : Option FileMap) (image script : List ℕ) (program : Image) (events : Events) : Type 0 where
  pub image_held : HasImage files image program
  pub script_held : HasScript files script events

-- of this image, under these events
pub record IsHeadline (program : Image) (events : Events) (frames n : ℕ) (o : Outside) (status : Status) : Type 0 where
  -- what was printed, and how it ends: after n steps, or at a stop
  pub text : List ℕ
  pub count : ℕ
  pub end : End
  pub printed : Appends o.before.taken o.after.taken text
  pub status_is : status ≡ status_of end
  -- It is the text of one run from boot, step by step under the monitor's rules, which ends so. The host completed this
  -- run's direct instructions, no more and no fewer, at their addresses in their order. After n steps the host's first
  -- frames are this run's memory with the text patched.
  pub promise : Promise (wedge program events frames) n 512 text count end o.before.completed o.after.completed o.after.memory
  -- Its sets, and that by which it stops, keep the rule for kept translations: which of them a run keeps from step to step,
  -- while its pages lie under few directory indices.
  pub kept : Kept (wedge program events frames) (boot (wedge program events frames))
      (promise.sets ++ stopping (wedge program events frames) n promise.last end promise.run.ends)
  -- It is a run of the bare machine, on the unpatched image, with the same translations before each step, the same items
  -- and the same states. Where it ends at a stop of the monitor's own the bare machine's run is that up to there.
  pub bare_run : Run (bare program events frames) (bound_on_bare n promise.last end) (boot (bare program events frames)) promise.sets
      promise.reports promise.last (end_on_bare end)

-- of the image and the events that the files hold
pub record HasHeadline (image script : List ℕ) (frames n : ℕ) (o : Outside) (status : Status) : Type 0 where
  pub program : Image
  pub events : Events
  pub runnable : HasRunnable o.before.files image script program events
  pub headline : IsHeadline program events frames n o status
