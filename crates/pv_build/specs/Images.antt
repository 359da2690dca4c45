-- The images that objects are linked to, and that files hold.
use Rattle.std.specs.Prelude.{◌≡◌, ◌≤◌, ℕ, List, Option, Ok, Err, length, codes, ◌==◌, if◌then◌else◌}
use Rattle.elf_form.specs.declared.segments.TheConstants.{FILE_LIMIT}
use Rattle.pv_io.specs.Files.{FileMap, Holds}
use Rattle.elf_form.specs.ImageParts.{ImageParts}
use Rattle.elf_form.specs.ImageLayout.{image_bytes}
use Rattle.elf_form.specs.Reading.{image_in}
use Rattle.sites.specs.Formats.{told_count}
use Rattle.image_check.specs.Image.{Image}
use Rattle.image_check.specs.Refusals.{Refusal}
use Rattle.image_check.specs.Checking.{image_of}
use Rattle.pv_build.specs.Lines.{sizes_line}

-- text, data, zeroed bytes, and the count of sites that the annotations give
abbrev pub image_made_line : ImageParts → List ℕ
image_made_line p = sizes_line (codes "image") (length p.text) (length p.init) p.bss (told_count p.sites) (codes "")

-- The file of an image is read as that image, unless it is too long.
abbrev pub ImageReadsBack : ImageParts → Type 0
ImageReadsBack p = length (image_bytes p) ≤ FILE_LIMIT → image_in (image_bytes p) ≡ Ok p

-- the name holds an image that is accepted, or a file that isn't
abbrev pub HasImage : Option FileMap → List ℕ → Image → Type 0
HasImage files name image = (file : List ℕ) × Holds files name file × (image_of file ≡ Ok image)

abbrev pub HasNoImage : Option FileMap → List ℕ → Refusal → Type 0
HasNoImage files name refusal = (file : List ℕ) × Holds files name file × (image_of file ≡ Err refusal)

abbrev pub format_words : ℕ → List ℕ
format_words format = if format == 2 then codes " format 2" else codes " format 1"

abbrev pub accepted_line : Image → List ℕ
accepted_line image =
    sizes_line (codes "accepted") (length image.text) (length image.init) image.bss (length image.sites) (format_words image.format)
