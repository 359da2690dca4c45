-- The meaning of `list`.
use Rattle.std.proofs.Common.{◌≡◌, ℕ, List, Option, refl, sym, ap, ◌∙◌}
use Rattle.pv_io.specs.Files.{FileMap}
use Rattle.image_check.specs.Image.{Image}
use Rattle.image_check.specs.Refusals.{Refusal}
use Rattle.pv_build.specs.Lines.{image_line}
use Rattle.pv_build.specs.Telling.{Says}
use Rattle.pv_build.specs.Images.{HasImage, HasNoImage}
use Rattle.pv_build.specs.declared.status.Status.{Status}
use Rattle.pv_build.specs.declared.status.Status.TheVariants as status
use Rattle.pv_tasks.specs.Outside.{Outside}
use Rattle.pv_tasks.specs.Outcome.{refused, printed}
use Rattle.pv_tasks.specs.Tasks.{Means}
use Rattle.pv_tasks.proofs.Deliveries.{says}
use Rattle.pv_look.specs.Listing.{listing, listed, Lists, list_task}

-- a file that is not accepted
pub refuses_image : (files : Option FileMap) (name line : List ℕ) → (refusal : Refusal) × HasNoImage files name refusal
    × (line ≡ image_line refusal) → Lists files name (refused line)
refuses_image files name line h = (h.1.0, h.1.1, ap refused h.2 ∙ sym (ap listed h.1.2))

-- an accepted image whose listing was put
pub lists_image : (name : List ℕ) (image : Image) (o : Outside) (st : Status) → HasImage o.before.files name image
    → o.after.files ≡ o.before.files → o.after.completed ≡ o.before.completed
    → Says (listing image) status.Done o.before.taken o.after.taken o.before.puts o.after.puts st → Means (list_task name) o st
lists_image name image o st has same none said =
    says (list_task name) o (printed (listing image)) st tt refl (has.0, has.1, sym (ap listed has.2)) same (λ end. none) said
