-- What `work` promises of its two runs.
use Rattle.std.specs.Prelude.{◌≡◌, ◌↔◌, ℕ, List, [], ◌++◌, Ok}
use Rattle.pv_io.specs.Sink.{Appends}
use Rattle.kernel_gen.specs.Kernels.{kernel_text}
use Rattle.image_check.specs.Image.{Image}
use Rattle.run_trace.specs.declared.items.End.{End}
use Rattle.machine_model.specs.State.{boot}
use Rattle.machine_model.specs.Run.{Run, stopping}
use Rattle.machine_model.specs.Keeping.{Kept}
use Rattle.machine_model.specs.OnBare.{bound_on_bare, end_on_bare}
use Rattle.bare_machine.specs.Settings.{bare}
use Rattle.wedge_core.specs.Promises.{Promise, HasOwnFills}
use Rattle.pv_build.specs.Lines.{same_line}
use Rattle.pv_build.specs.Building.{Builds}
use Rattle.pv_build.specs.Comparing.{told_line, compared_line}
use Rattle.pv_tasks.specs.Outside.{Outside}
use Rattle.pv_tasks.specs.Working.{first_text, second_setting}

-- of an image that is made of this number
pub record IsComparison (number : ℕ) (program : Image) (o : Outside) : Type 0 where
  -- the second run's text, and how it ends
  pub second : List ℕ
  pub count : ℕ
  pub end : End
  -- how many pages were filled in it
  pub fills : ℕ
  -- Both lines are printed. The second is `same` exactly where the first run's text, which is a function of the image, is equal to
  -- the second's. Else it names the first line that differs or is missing.
  pub printed : Appends o.before.taken o.after.taken (told_line number program second fills ++ compared_line (first_text program) second)
  pub same : (compared_line (first_text program) second ≡ same_line) ↔ (first_text program ≡ second)
  -- The second text is that of one run from boot under the monitor's rules. The host completed its direct instructions, no
  -- more and no fewer, and after all steps its first frames are this run's memory with the text patched.
  pub promise : Promise (second_setting program) 100000 512 second count end o.before.completed o.after.completed o.after.memory
  -- its sets, and that by which it stops, keep the rule for kept translations
  pub kept : Kept (second_setting program) (boot (second_setting program))
      (promise.sets ++ stopping (second_setting program) 100000 promise.last end promise.run.ends)
  -- what was printed as filled lies between the bounds of what this run has filled, by the set at its end
  pub filled : HasOwnFills (second_setting program) 100000 512 promise.sets promise.last end promise.run.ends fills
  -- it is a run of the bare machine, up to a stop of the monitor's own
  pub bare_run : Run (bare program [] 4096) (bound_on_bare 100000 promise.last end) (boot (bare program [] 4096)) promise.sets
      promise.reports promise.last (end_on_bare end)

-- of the image that the number's kernel is built into
pub record HasComparison (number : ℕ) (o : Outside) : Type 0 where
  pub program : Image
  pub builds : Builds (kernel_text number) (Ok program)
  pub comparison : IsComparison number program o
