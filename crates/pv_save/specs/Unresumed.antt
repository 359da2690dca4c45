-- Why nothing goes on from a checkpoint.
use Rattle.std.specs.Prelude.{◌≡◌, ℕ, Bool, List, Option, Err}
use Rattle.pv_io.specs.Files.{FileMap, Holds}
use Rattle.board.specs.Scripts.{Events}
use Rattle.image_check.specs.Image.{Image}
use Rattle.checkpoint.specs.declared.state.State.{State}
use Rattle.checkpoint.specs.declared.state.CheckpointCause.{CheckpointCause}
use Rattle.checkpoint.specs.declared.state.CheckpointCause.TheVariants as cause
use Rattle.checkpoint.specs.States.{checkpoint_in}
use Rattle.checkpoint.specs.Fits.{fits_of}
use Rattle.pv_build.specs.Lines.{place_line}
use Rattle.pv_build.specs.Images.{HasImage}
use Rattle.pv_build.specs.Scripts.{HasScript, NoRun}
use Rattle.pv_save.specs.Checkpoints.{checkpoint_number, HasState}

-- the name holds a file that is no checkpoint
abbrev pub HasNoState : Option FileMap → List ℕ → ℕ → Type 0
HasNoState files name at = (file : List ℕ) × Holds files name file × (checkpoint_in file ≡ Err at)

-- why there is nothing to go on from: no run, a file that is no checkpoint, or a state that doesn't fit
pub data NoResumption (files : Option FileMap) (image script name : List ℕ) (wedge : Bool) (n : ℕ) (line : List ℕ) : Type 0 where
  NothingToRun : NoRun files image script line → NoResumption files image script name wedge n line
  NoState : (program : Image) (events : Events) (at : ℕ) → HasImage files image program → HasScript files script events
      → HasNoState files name at
      → line ≡ place_line (checkpoint_number cause.Form) at → NoResumption files image script name wedge n line
  Unfit : (program : Image) (events : Events) (state : State) (at : ℕ) (why : CheckpointCause) → HasImage files image program
      → HasScript files script events
      → HasState files name state → fits_of state program wedge n ≡ Err (at, why) → line ≡ place_line (checkpoint_number why) at
      → NoResumption files image script name wedge n line
