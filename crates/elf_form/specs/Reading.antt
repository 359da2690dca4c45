-- What is read of an image, or the first fault.
use Rattle.std.specs.Prelude.{ℕ, ◌+◌, ◌-◌, List, Option, None, Result}
use Rattle.guest_ram.specs.Bytes.{word32, part}
use Rattle.elf_form.specs.declared.abi.TheConstants.{ET_EXEC, E_ENTRY, P_FILESZ, P_MEMSZ, P_OFFSET, P_VADDR}
use Rattle.elf_form.specs.declared.cause.ElfCause.{ElfCause}
use Rattle.elf_form.specs.declared.cause.ElfCause.TheVariants.{Sizes, SectionForm, Compressed, StringPlace}
use Rattle.elf_form.specs.ImageParts.{ImageParts}
use Rattle.elf_form.specs.Faults.{Fault, tested, causes, ◌or_lower◌}
use Rattle.elf_form.specs.Tables.{first_of, second_of}
use Rattle.elf_form.specs.Header.{wrong_file}
use Rattle.elf_form.specs.Segments.{loads, sizes, order}
use Rattle.elf_form.specs.Sections.{sites_sections, one_of, contents, compressed, nameless}

-- the parts that two program headers and a section name
unfoldable pub parts_at : List ℕ → ℕ → ℕ → ℕ → ImageParts
parts_at bytes t d s = record {
  text = part bytes (word32 bytes (t + P_OFFSET)) (word32 bytes (t + P_FILESZ));
  init = part bytes (word32 bytes (d + P_OFFSET)) (word32 bytes (d + P_FILESZ));
  bss = word32 bytes (d + P_MEMSZ) - word32 bytes (d + P_FILESZ);
  entry = word32 bytes E_ENTRY;
  text_at = word32 bytes (t + P_VADDR);
  init_at = word32 bytes (d + P_VADDR);
  sites = contents bytes s;
}

-- which program headers and sections there are
unfoldable pub section_form : List ℕ → Option ℕ
section_form bytes = order bytes (loads bytes) or_lower one_of (sites_sections bytes)

-- where a file is wrong as an image by a cause, if it is
abbrev pub wrong_in_image : List ℕ → ElfCause → Option ℕ
wrong_in_image bytes Sizes = sizes bytes
wrong_in_image bytes SectionForm = section_form bytes
wrong_in_image bytes Compressed = compressed bytes
wrong_in_image bytes StringPlace = nameless bytes
wrong_in_image bytes _ = None

unfoldable pub wrong_image : List ℕ → ElfCause → Option ℕ
wrong_image bytes cause = wrong_file ET_EXEC (wrong_in_image bytes) bytes cause

-- The image of a file that is wrong by no cause, by its two program headers and its section of sites.
abbrev pub image_at : List ℕ → ImageParts
image_at bytes = parts_at bytes (first_of (loads bytes)) (second_of (loads bytes)) (first_of (sites_sections bytes))

unfoldable pub image_in : List ℕ → Result ImageParts Fault
image_in bytes = tested (wrong_image bytes) causes (image_at bytes)
