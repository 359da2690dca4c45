-- The listing of an image: its text as a source.
use Rattle.std.specs.Prelude.{◌≡◌, ℕ, List, ◌++◌, codes, Option, Result, Ok, Err}
use Rattle.std.specs.List.{flat_map}
use Rattle.pv_io.specs.Files.{FileMap, Holds, IsHeld}
use Rattle.image_check.specs.Image.{Image}
use Rattle.image_check.specs.Refusals.{Refusal}
use Rattle.image_check.specs.Checking.{image_of}
use Rattle.image_check.specs.Standing.{swept_of}
use Rattle.pv_build.specs.Lines.{image_line}
use Rattle.pv_tasks.specs.Outcome.{Outcome, refused, printed}
use Rattle.pv_tasks.specs.Tasks.{Task, plain}
use Rattle.pv_look.specs.Lines.{lines_of}

-- the entry is a global symbol
abbrev pub head : List ℕ
head = codes "    .globl _start\n"

-- and the lines of each instruction of the sweep follow
unfoldable pub listing : Image → List ℕ
listing image = head ++ flat_map (lines_of image) (swept_of image.text)

abbrev pub listed : Result Image Refusal → Outcome
listed (Ok image) = printed (listing image)
listed (Err refusal) = refused (image_line refusal)

abbrev pub Lists : Option FileMap → List ℕ → Outcome → Type 0
Lists files name w = (file : List ℕ) × Holds files name file × (w ≡ listed (image_of file))

-- what `list` asks for
abbrev pub list_task : List ℕ → Task
list_task name = plain (λ files w. Lists files name w) (λ files. IsHeld files name)
