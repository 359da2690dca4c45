-- The work of `link`: each object is read before the next is loaded.
use Rattle.std.specs.Prelude.{◌≡◌, ℕ, List, Option, Some, Result, Ok, Err}
use Rattle.pv_io.specs.Files.{FileMap, Stores}
use Rattle.elf_form.specs.Faults.{Fault}
use Rattle.elf_form.specs.ObjectParts.{ObjectParts}
use Rattle.elf_form.specs.ImageParts.{ImageParts}
use Rattle.elf_form.specs.ImageLayout.{image_bytes}
use Rattle.elf_link.specs.Refusals.{Refused}
use Rattle.elf_link.specs.Linked.{linked_image}
use Rattle.pv_build.specs.Lines.{form_number, object_place_line, link_line}
use Rattle.pv_build.specs.Objects.{HasObjects, FindsObjects, FirstFault}
use Rattle.pv_build.specs.Images.{image_made_line, ImageReadsBack}
use Rattle.pv_tasks.specs.Outcome.{Outcome, refused, stored_as}
use Rattle.pv_tasks.specs.Tasks.{Task, plain}

abbrev pub linked : List ℕ → Result ImageParts Refused → Outcome
linked name (Ok p) = stored_as name (image_bytes p) (image_made_line p)
linked name (Err fault) = refused (link_line fault.object fault.cause)

-- the outcome of the objects' files
pub data Links (files : Option FileMap) (image : List ℕ) (objects : List (List ℕ)) (w : Outcome) : Type 0 where
  AllRead : (os : List ObjectParts) → HasObjects files objects os → w ≡ linked image (linked_image os) → Links files image objects w
  NoObject : (i : ℕ) (fault : Fault) → FirstFault files objects i fault
      → w ≡ refused (object_place_line (form_number fault.cause) i fault.at) → Links files image objects w

-- the objects that the names hold are linked to this image, which is read back
pub record HasLinked (files : Option FileMap) (objects : List (List ℕ)) (p : ImageParts) : Type 0 where
  pub read : List ObjectParts
  pub holds : HasObjects files objects read
  pub linked_is : linked_image read ≡ Ok p
  pub reads_back : ImageReadsBack p

-- what `link` asks for; it leaves a file that is read back as the image
abbrev pub link_task : List ℕ → List (List ℕ) → Task
link_task image objects = record (plain (λ files w. Links files image objects w) (λ files. FindsObjects files objects)) {
  saved = Some image;
  leaves = λ old new. (p : ImageParts) × HasLinked old objects p × Stores old new image (image_bytes p);
}
