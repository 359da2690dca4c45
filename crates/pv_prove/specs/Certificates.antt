-- The certificates that files hold, by which a text is judged.
use Rattle.std.specs.Prelude.{◌≡◌, ℕ, List, Option, Ok}
use Rattle.pv_io.specs.Files.{FileMap, Holds, IsHeld}
use Rattle.board.specs.Scripts.{Events}
use Rattle.image_check.specs.Image.{Image}
use Rattle.trace_check.specs.declared.list.Choice.{Choice}
use Rattle.trace_check.specs.Reading.{choices_in}
use Rattle.pv_build.specs.Images.{HasImage}
use Rattle.pv_build.specs.Scripts.{HasScript, FindsRun}

-- the name holds a list of choices
abbrev pub HasChoices : Option FileMap → List ℕ → List Choice → Type 0
HasChoices files name list = (file : List ℕ) × Holds files name file × (choices_in file ≡ Ok list)

-- Each name that is reached is held: the certificate is reached where the image is accepted and the script is read, and the
-- text where the certificate is read too.
abbrev pub FindsReplay : Option FileMap → List ℕ → List ℕ → List ℕ → List ℕ → Type 0
FindsReplay files image script certificate text =
    FindsRun files image script
    × ((program : Image) (events : Events) → HasImage files image program → HasScript files script events
    → IsHeld files certificate × ((list : List Choice) → HasChoices files certificate list → IsHeld files text))
