-- The header of a file (System V ABI, chapter 4, ELF Header) and where its tables and their contents pass the end.
use Rattle.std.specs.Prelude.{ℕ, ◌+◌, ◌*◌, Bool, not, ◌&&◌, List, ◌∷◌, ◌++◌, length, map, filter, Option, option_map, nat_lt, ◌==◌}
use Rattle.std.specs.Bool.{then_some}
use Rattle.std.specs.List.{find}
use Rattle.guest_ram.specs.Bytes.{byte, word16, word32}
use Rattle.elf_form.specs.declared.abi.TheConstants.{EHDR_SIZE, EI_CLASS, EI_DATA, EI_VERSION, ELFCLASS32, ELFDATA2LSB, ELFMAG, EM_386, EV_CURRENT, E_MACHINE, E_PHNUM, E_PHOFF, E_SHNUM, E_SHOFF, E_TYPE, E_VERSION, PHDR_SIZE, P_FILESZ, P_OFFSET, SHDR_SIZE, SHT_NOBITS, SHT_NULL, SH_OFFSET, SH_SIZE, SH_TYPE}
use Rattle.elf_form.specs.declared.cause.ElfCause.{ElfCause}
use Rattle.elf_form.specs.declared.cause.ElfCause.TheVariants.{Truncated, Magic, Class, Encoding, Version, FileType, Machine}
use Rattle.elf_form.specs.Faults.{◌or_lower◌}
use Rattle.elf_form.specs.Tables.{entries}

-- where the tables begin, and their entries
abbrev pub header_table : List ℕ → ℕ
header_table bytes = word32 bytes E_PHOFF

abbrev pub section_table : List ℕ → ℕ
section_table bytes = word32 bytes E_SHOFF

abbrev pub header_count : List ℕ → ℕ
header_count bytes = word16 bytes E_PHNUM

abbrev pub section_count : List ℕ → ℕ
section_count bytes = word16 bytes E_SHNUM

abbrev pub headers : List ℕ → List ℕ
headers bytes = entries (header_table bytes) PHDR_SIZE (header_count bytes)

abbrev pub sections : List ℕ → List ℕ
sections bytes = entries (section_table bytes) SHDR_SIZE (section_count bytes)

-- whether a part passes the end
abbrev pub passes : List ℕ → ℕ → ℕ → Bool
passes bytes at size = nat_lt (length bytes) (at + size)

-- of a section at s: null ones and those without bytes have no contents
abbrev pub has_contents : List ℕ → ℕ → Bool
has_contents bytes s = not (word32 bytes (s + SH_TYPE) == SHT_NULL) && not (word32 bytes (s + SH_TYPE) == SHT_NOBITS)

-- Where each part begins, and how long it is: the header, the two tables, what the program headers name, and the contents of the sections.
abbrev pub named_parts : List ℕ → List (ℕ × ℕ)
named_parts bytes =
    (0, EHDR_SIZE) ∷ (header_table bytes, PHDR_SIZE * header_count bytes) ∷ (section_table bytes, SHDR_SIZE * section_count bytes)
    ∷ (map (λ h. (word32 bytes (h + P_OFFSET), word32 bytes (h + P_FILESZ))) (headers bytes)
    ++ map (λ s. (word32 bytes (s + SH_OFFSET), word32 bytes (s + SH_SIZE))) (filter (has_contents bytes) (sections bytes)))

-- where the first of them begins that passes the end
unfoldable pub cut : List ℕ → Option ℕ
cut bytes = option_map (λ part. part.0) (find (λ part. passes bytes part.0 part.1) (named_parts bytes))

-- a field of two bytes that has another value than the one that is asked for
abbrev pub wrong_half : ℕ → ℕ → List ℕ → Option ℕ
wrong_half field wanted bytes = then_some (not (word16 bytes field == wanted)) field

-- Where a file of a type (ET_REL an object, ET_EXEC an image) is wrong by a cause, if it is. Each field of the header that is
-- tested has one value. The other causes are given for what follows the header.
abbrev pub wrong_file : ℕ → (ElfCause → Option ℕ) → List ℕ → ElfCause → Option ℕ
wrong_file wanted other bytes Truncated = cut bytes
wrong_file wanted other bytes Magic = then_some (not (word32 bytes 0 == ELFMAG)) 0
wrong_file wanted other bytes Class = then_some (not (byte bytes EI_CLASS == ELFCLASS32)) EI_CLASS
wrong_file wanted other bytes Encoding = then_some (not (byte bytes EI_DATA == ELFDATA2LSB)) EI_DATA
wrong_file wanted other bytes Version = then_some (not (byte bytes EI_VERSION == EV_CURRENT)) EI_VERSION or_lower then_some
    (not (word32 bytes E_VERSION == EV_CURRENT)) E_VERSION
wrong_file wanted other bytes FileType = wrong_half E_TYPE wanted bytes
wrong_file wanted other bytes Machine = wrong_half E_MACHINE EM_386 bytes
wrong_file wanted other bytes cause = other cause
