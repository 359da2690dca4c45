-- The scripts that files hold, and the images that are run under them.
use Rattle.std.specs.Prelude.{◌≡◌, ℕ, List, Option, Ok, Err}
use Rattle.pv_io.specs.Files.{FileMap, Holds, IsHeld}
use Rattle.board.specs.Scripts.{Events}
use Rattle.board.specs.Texts.{script_of}
use Rattle.board.specs.declared.fault.ScriptCause.{ScriptCause}
use Rattle.image_check.specs.Image.{Image}
use Rattle.image_check.specs.Refusals.{Refusal}
use Rattle.pv_build.specs.Lines.{image_line, script_line}
use Rattle.pv_build.specs.Images.{HasImage, HasNoImage}

abbrev pub HasScript : Option FileMap → List ℕ → Events → Type 0
HasScript files name script = (file : List ℕ) × Holds files name file × (script_of file ≡ Ok script)

abbrev pub HasNoScript : Option FileMap → List ℕ → ℕ × ScriptCause → Type 0
HasNoScript files name fault = (file : List ℕ) × Holds files name file × (script_of file ≡ Err fault)

-- Each name that is reached is held: the script is reached where the image is accepted.
abbrev pub FindsRun : Option FileMap → List ℕ → List ℕ → Type 0
FindsRun files image script = IsHeld files image × ((program : Image) → HasImage files image program → IsHeld files script)

-- why there is nothing to run: the file of the image, or of the script of an image that is accepted
pub data NoRun (files : Option FileMap) (image script line : List ℕ) : Type 0 where
  NoImage : (refusal : Refusal) → HasNoImage files image refusal → line ≡ image_line refusal → NoRun files image script line
  NoScript : (program : Image) (at : ℕ) (cause : ScriptCause) → HasImage files image program → HasNoScript files script (at, cause)
      → line ≡ script_line at cause → NoRun files image script line
