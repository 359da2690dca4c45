-- The work of `check`.
use Rattle.std.specs.Prelude.{◌≡◌, ℕ, List, Option, Result, Ok, Err}
use Rattle.pv_io.specs.Files.{FileMap, Holds, IsHeld}
use Rattle.image_check.specs.Image.{Image}
use Rattle.image_check.specs.Refusals.{Refusal}
use Rattle.image_check.specs.Checking.{image_of}
use Rattle.pv_build.specs.Lines.{image_line}
use Rattle.pv_build.specs.Images.{accepted_line}
use Rattle.pv_tasks.specs.Outcome.{Outcome, refused, printed}
use Rattle.pv_tasks.specs.Tasks.{Task, plain}

abbrev pub checked : Result Image Refusal → Outcome
checked (Ok image) = printed (accepted_line image)
checked (Err refusal) = refused (image_line refusal)

abbrev pub Checks : Option FileMap → List ℕ → Outcome → Type 0
Checks files name w = (file : List ℕ) × Holds files name file × (w ≡ checked (image_of file))

-- what `check` asks for
abbrev pub check_task : List ℕ → Task
check_task name = plain (λ files w. Checks files name w) (λ files. IsHeld files name)
