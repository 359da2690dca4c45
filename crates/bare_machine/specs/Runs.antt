-- The runs of an image that have an end.
use Rattle.std.specs.Prelude.{ℕ, ◌≤◌, List}
use Rattle.board.specs.Scripts.{Events}
use Rattle.image_check.specs.Image.{Image}
use Rattle.image_load.specs.Boot.{need}
use Rattle.run_trace.specs.declared.items.End.{End}
use Rattle.machine_model.specs.Run.{CanGive}
use Rattle.bare_machine.specs.Settings.{bare}

-- a run of the image that has an end, and its text
pub record HasRun (image : Image) (script : Events) (frames n : ℕ) (text : List ℕ) (count : ℕ) (end : End) : Type 0 where
  pub fits : need image ≤ frames
  pub given : CanGive (bare image script frames) n text count end
