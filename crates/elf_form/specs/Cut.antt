-- The parts that pass the end, as a file's tables are gone through one after the other.
use Rattle.std.specs.Prelude.{ℕ, ◌+◌, ◌*◌, Bool, ◌&&◌, List, Option, option_map}
use Rattle.std.specs.Bool.{then_some}
use Rattle.std.specs.List.{find}
use Rattle.std.specs.Option.{option_or}
use Rattle.guest_ram.specs.Bytes.{word32}
use Rattle.elf_form.specs.declared.abi.TheConstants.{EHDR_SIZE, PHDR_SIZE, P_FILESZ, P_OFFSET, SHDR_SIZE, SH_OFFSET, SH_SIZE}
use Rattle.elf_form.specs.Header.{header_table, section_table, header_count, section_count, headers, sections, passes, has_contents}

-- of a program header at h: whether what it names passes the end
abbrev pub header_passes : List ℕ → ℕ → Bool
header_passes bytes h = passes bytes (word32 bytes (h + P_OFFSET)) (word32 bytes (h + P_FILESZ))

-- of a section at s: whether its contents do
abbrev pub section_passes : List ℕ → ℕ → Bool
section_passes bytes s = has_contents bytes s && passes bytes (word32 bytes (s + SH_OFFSET)) (word32 bytes (s + SH_SIZE))

-- where the part begins that an entry names
abbrev pub part_begins : List ℕ → ℕ → Option ℕ → Option ℕ
part_begins bytes field found = option_map (λ entry. word32 bytes (entry + field)) found

abbrev pub header_cut : List ℕ → Option ℕ
header_cut bytes = then_some (passes bytes 0 EHDR_SIZE) 0

abbrev pub header_table_cut : List ℕ → Option ℕ
header_table_cut bytes = then_some (passes bytes (header_table bytes) (PHDR_SIZE * header_count bytes)) (header_table bytes)

abbrev pub section_table_cut : List ℕ → Option ℕ
section_table_cut bytes = then_some (passes bytes (section_table bytes) (SHDR_SIZE * section_count bytes)) (section_table bytes)

abbrev pub header_part_cut : List ℕ → Option ℕ
header_part_cut bytes = part_begins bytes P_OFFSET (find (header_passes bytes) (headers bytes))

abbrev pub section_part_cut : List ℕ → Option ℕ
section_part_cut bytes = part_begins bytes SH_OFFSET (find (section_passes bytes) (sections bytes))

-- The first part that passes the end: the header, the tables, what the program headers name, the contents of sections.
unfoldable pub cut_in_turn : List ℕ → Option ℕ
cut_in_turn bytes =
    option_or (header_cut bytes)
    (option_or (header_table_cut bytes)
    (option_or (section_table_cut bytes)
    (option_or (header_part_cut bytes) (section_part_cut bytes))))
