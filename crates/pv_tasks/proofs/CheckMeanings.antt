-- The meaning of `check`.
use Rattle.std.proofs.Common.{◌≡◌, ℕ, List, Option, refl, sym, ap, ◌∙◌}
use Rattle.pv_io.specs.Files.{FileMap}
use Rattle.image_check.specs.Image.{Image}
use Rattle.image_check.specs.Refusals.{Refusal}
use Rattle.pv_build.specs.Lines.{image_line}
use Rattle.pv_build.specs.Telling.{Says}
use Rattle.pv_build.specs.Images.{HasImage, HasNoImage, accepted_line}
use Rattle.pv_build.specs.declared.status.Status.{Status}
use Rattle.pv_build.specs.declared.status.Status.TheVariants as status
use Rattle.pv_tasks.specs.Outside.{Outside}
use Rattle.pv_tasks.specs.Outcome.{refused, printed}
use Rattle.pv_tasks.specs.Checking.{Checks, checked, check_task}
use Rattle.pv_tasks.specs.Tasks.{Means}
use Rattle.pv_tasks.proofs.Deliveries.{says}

-- a file that is not accepted
pub refuses_image : (files : Option FileMap) (name line : List ℕ) → (refusal : Refusal) × HasNoImage files name refusal
    × (line ≡ image_line refusal) → Checks files name (refused line)
refuses_image files name line h = (h.1.0, h.1.1, ap refused h.2 ∙ sym (ap checked h.1.2))

-- an accepted image whose line was put
pub tells_image : (name line : List ℕ) (image : Image) (o : Outside) (st : Status) → HasImage o.before.files name image
    → line ≡ accepted_line image → o.after.files ≡ o.before.files → o.after.completed ≡ o.before.completed
    → Says line status.Done o.before.taken o.after.taken o.before.puts o.after.puts st → Means (check_task name) o st
tells_image name line image o st has is same none said =
    says (check_task name) o (printed line) st tt refl (has.0, has.1, ap printed is ∙ sym (ap checked has.2)) same (λ end. none) said
