-- Why no text is judged.
use Rattle.std.specs.Prelude.{◌≡◌, ℕ, List, Option, Err}
use Rattle.pv_io.specs.Files.{FileMap, Holds}
use Rattle.board.specs.Scripts.{Events}
use Rattle.image_check.specs.Image.{Image}
use Rattle.trace_check.specs.Reading.{choices_in}
use Rattle.pv_prove.specs.CertificateLines.{certificate_refusal}
use Rattle.pv_build.specs.Images.{HasImage}
use Rattle.pv_build.specs.Scripts.{HasScript, NoRun}

-- the name holds a file that is no list of choices, reported by its first bad field
abbrev pub HasNoChoices : Option FileMap → List ℕ → ℕ → Type 0
HasNoChoices files name at = (file : List ℕ) × Holds files name file × (choices_in file ≡ Err at)

-- why there is nothing to judge: the image or the script, or then the certificate's form
pub data NoReplay (files : Option FileMap) (image script certificate line : List ℕ) : Type 0 where
  NoRunnable : NoRun files image script line → NoReplay files image script certificate line
  NoChoices : (program : Image) (events : Events) (at : ℕ) → HasImage files image program → HasScript files script events
      → HasNoChoices files certificate at
      → line ≡ certificate_refusal at → NoReplay files image script certificate line
