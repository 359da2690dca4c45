-- The checkpoints that files hold, and what goes on from them.
use Rattle.std.specs.Prelude.{◌≡◌, ℕ, List, Option, Ok, ◌++◌, codes, decimal}
use Rattle.pv_io.specs.Files.{FileMap, Holds, IsHeld}
use Rattle.board.specs.Scripts.{Events}
use Rattle.image_check.specs.Image.{Image}
use Rattle.checkpoint.specs.declared.state.State.{State}
use Rattle.checkpoint.specs.declared.state.CheckpointCause.{CheckpointCause}
use Rattle.checkpoint.specs.declared.state.CheckpointCause.TheVariants as cause
use Rattle.checkpoint.specs.States.{checkpoint_in}
use Rattle.pv_build.specs.Images.{HasImage}
use Rattle.pv_build.specs.Scripts.{HasScript, FindsRun}

-- why a checkpoint isn't gone on from
abbrev pub checkpoint_number : CheckpointCause → ℕ
checkpoint_number cause.Form = 110
checkpoint_number cause.TextChanged = 111
checkpoint_number cause.UserFlags = 112
checkpoint_number cause.StepsPast = 113

-- so many steps were done, and the state is stored
abbrev pub saved_line : ℕ → List ℕ
saved_line n = codes "saved steps " ++ (decimal n ++ codes "\n")

-- the name holds the checkpoint of a state
abbrev pub HasState : Option FileMap → List ℕ → State → Type 0
HasState files name state = (file : List ℕ) × Holds files name file × (checkpoint_in file ≡ Ok state)

-- Each name that is reached is held: the checkpoint is reached where the image is accepted and the script is read.
abbrev pub FindsState : Option FileMap → List ℕ → List ℕ → List ℕ → Type 0
FindsState files image script name =
    FindsRun files image script
    × ((program : Image) (events : Events) → HasImage files image program → HasScript files script events → IsHeld files name)
