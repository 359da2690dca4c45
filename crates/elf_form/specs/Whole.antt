-- What is known of a file in which no part passes the end.
use Rattle.std.specs.Prelude.{◌≡◌, ◌≤◌, ℕ, ◌+◌, ◌*◌, false, List, length, None}
use Rattle.std.specs.List.{find}
use Rattle.elf_form.specs.declared.abi.TheConstants.{EHDR_SIZE, PHDR_SIZE, SHDR_SIZE, P_FILESZ, P_MEMSZ}
use Rattle.elf_form.specs.Header.{header_table, section_table, header_count, section_count, headers, sections}
use Rattle.elf_form.specs.Cut.{header_passes, section_passes}
use Rattle.elf_form.specs.declared.segments.Found.{Found}
use Rattle.elf_form.specs.declared.segments.Found.TheVariants.{Nothing, One, Two, More}
use Rattle.guest_ram.specs.Bytes.{word32}

-- What a file has in which no part passes the end.
pub record IsWhole (bytes : List ℕ) : Type 0 where
  pub header : EHDR_SIZE ≤ length bytes
  pub header_room : header_table bytes + PHDR_SIZE * header_count bytes ≤ length bytes
  pub section_room : section_table bytes + SHDR_SIZE * section_count bytes ≤ length bytes
  pub header_parts : find (header_passes bytes) (headers bytes) ≡ None
  pub section_parts : find (section_passes bytes) (sections bytes) ≡ None

-- a program header, and a section, of such a file
abbrev pub IsHeader : List ℕ → ℕ → Type 0
IsHeader bytes h = (h + PHDR_SIZE ≤ length bytes) × (header_passes bytes h ≡ false)

abbrev pub IsSection : List ℕ → ℕ → Type 0
IsSection bytes s = (s + SHDR_SIZE ≤ length bytes) × (section_passes bytes s ≡ false)

-- each of them
abbrev pub AllFound : (ℕ → Type 0) → Found → Type 0
AllFound P Nothing = Unit {0}
AllFound P (One a) = P a
AllFound P (Two a b) = P a × P b
AllFound P (More a b) = P a × P b

-- two program headers and a section of the file
abbrev pub ArePlaces : List ℕ → ℕ × ℕ × ℕ → Type 0
ArePlaces bytes at =
    IsHeader bytes at.0 × IsHeader bytes at.1 × IsSection bytes at.2 × (word32 bytes (at.1 + P_FILESZ) ≤ word32 bytes (at.1 + P_MEMSZ))
