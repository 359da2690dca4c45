-- How an image is built of a text: a value, or the line of the first refusal.
use Rattle.std.specs.Prelude.{◌≡◌, ℕ, List, [], ◌∷◌, Result, Ok, Err}
use Rattle.asm_lex.specs.declared.fault.SourceCause.{SourceCause}
use Rattle.asm_source.specs.declared.tree.SourceItem.{SourceItem}
use Rattle.elf_form.specs.Faults.{Fault, ◌>>=◌}
use Rattle.elf_form.specs.ObjectParts.{ObjectParts}
use Rattle.elf_form.specs.ObjectLayout.{object_bytes}
use Rattle.elf_form.specs.ObjectReading.{object_in}
use Rattle.elf_form.specs.ImageParts.{ImageParts}
use Rattle.elf_form.specs.ImageLayout.{image_bytes}
use Rattle.afterburner.specs.Burnt as burning
use Rattle.afterburner.specs.Burnt.{burnt}
use Rattle.elf_link.specs.Refusals.{Refused}
use Rattle.elf_link.specs.Linked.{linked_image}
use Rattle.image_check.specs.Image.{Image}
use Rattle.image_check.specs.Refusals.{Refusal}
use Rattle.image_check.specs.Checking.{image_of}
use Rattle.pv_build.specs.Lines.{form_number, object_place_line, link_line, image_line}
use Rattle.pv_build.specs.Sources.{SaysSource, source_line}
use Rattle.pv_build.specs.Objects.{burn_line}

-- the object that a file holds
abbrev pub object_read : Result ObjectParts Fault → Result ObjectParts (List ℕ)
object_read (Ok o) = Ok o
object_read (Err fault) = Err (object_place_line (form_number fault.cause) 0 fault.at)

-- the object that a source is burnt to, as its file is read
abbrev pub object_made : Result ObjectParts burning.Fault → Result ObjectParts (List ℕ)
object_made (Ok o) = object_read (object_in (object_bytes o))
object_made (Err fault) = Err (burn_line fault)

-- the image that objects are linked to
abbrev pub image_made : Result ImageParts Refused → Result ImageParts (List ℕ)
image_made (Ok p) = Ok p
image_made (Err fault) = Err (link_line fault.object fault.cause)

-- the image that a file holds, where it is accepted
abbrev pub image_accepted : Result Image Refusal → Result Image (List ℕ)
image_accepted (Ok image) = Ok image
image_accepted (Err refusal) = Err (image_line refusal)

-- a source is burnt, the object is linked alone, and the image is checked
abbrev pub built : List SourceItem → Result Image (List ℕ)
built items = (object_made (burnt items) >>= (λ o. image_made (linked_image (o ∷ [])))) >>= (λ p. image_accepted (image_of (image_bytes p)))

abbrev pub built_of : Result (List SourceItem) (ℕ × SourceCause) → Result Image (List ℕ)
built_of (Ok items) = built items
built_of (Err (line, cause)) = Err (source_line line cause)

-- what a text is built into
pub record Builds (text : List ℕ) (r : Result Image (List ℕ)) : Type 0 where
  pub said : Result (List SourceItem) (ℕ × SourceCause)
  pub says : SaysSource text said
  pub comes : r ≡ built_of said
