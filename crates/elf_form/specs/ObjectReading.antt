-- What is read of an object, or the first fault.
use Rattle.std.specs.Prelude.{ℕ, ◌+◌, ◌%◌, ◌^◌, ◌||◌, List, [], ◌∷◌, ◌++◌, map, codes, Option, Some, None, option_and_then, Result, ◌==◌, if◌then◌else◌}
use Rattle.std.specs.Option.{option_map_or}
use Rattle.guest_ram.specs.Bytes.{word16, word32}
use Rattle.elf_form.specs.declared.abi.TheConstants.{EHDR_SIZE, ET_REL, E_EHSIZE, E_SHENTSIZE, E_SHSTRNDX, SHDR_SIZE, SH_FLAGS, SH_LINK, SH_TYPE, SYM_SIZE}
use Rattle.elf_form.specs.declared.cause.ElfCause.{ElfCause}
use Rattle.elf_form.specs.declared.cause.ElfCause.TheVariants.{Sizes, SectionForm, Compressed, StringPlace, SymbolForm, RelocForm}
use Rattle.elf_form.specs.declared.roles.Role.TheVariants as role
use Rattle.elf_form.specs.declared.symbols.Table.{Table}
use Rattle.elf_form.specs.declared.symbols.SectionTest.TheVariants.{EntrySizes, Links}
use Rattle.elf_form.specs.declared.symbols.SymbolTest.TheVariants.{Names, Globals}
use Rattle.elf_form.specs.declared.symbols.RelocTest.{RelocTest}
use Rattle.elf_form.specs.declared.symbols.RelocTest.TheVariants.{Named, Form}
use Rattle.elf_form.specs.declared.segments.Found.{Found}
use Rattle.elf_form.specs.ObjectParts.{ObjectParts}
use Rattle.elf_form.specs.Faults.{Fault, tested, causes, ◌or_lower◌}
use Rattle.elf_form.specs.Tables.{first_in, second_in, further}
use Rattle.elf_form.specs.Header.{section_count, sections, wrong_half, wrong_file}
use Rattle.elf_form.specs.Segments.{too_long}
use Rattle.elf_form.specs.Sections.{contents, has_strings, strings_in, names, compressed, nameless}
use Rattle.elf_form.specs.Roles.{with_role, misaligned, joined_fault, joined_end, joined}
use Rattle.elf_form.specs.Symbols.{table_at, symbols_of, entries_fault, relocs_of, sections_fault, symbols_fault, relocs_fault, symbols_in, numbers, reloc_at}

-- the symbol table and the names of its symbols
unfoldable pub table_of : List ℕ → Table
table_of bytes = table_at bytes (with_role role.Symbols (names bytes) bytes)

abbrev pub link_of : List ℕ → ℕ
link_of bytes = word32 bytes ((table_of bytes).section + SH_LINK)

unfoldable pub strings_of : List ℕ → List ℕ
strings_of bytes = strings_in bytes (link_of bytes)

-- ---- sizes

abbrev pub table_fault : List ℕ → Found → Option ℕ
table_fault bytes found = option_and_then (entries_fault SYM_SIZE bytes) (first_in found)

unfoldable pub inner_sizes : List ℕ → Option ℕ
inner_sizes bytes =
    wrong_half E_EHSIZE EHDR_SIZE bytes or_lower (wrong_half E_SHENTSIZE SHDR_SIZE bytes
    or_lower (joined_fault role.Init (names bytes) bytes 0 (sections bytes) or_lower
    (joined_fault role.Bss (names bytes) bytes 0 (sections bytes)
    or_lower (table_fault bytes (with_role role.Symbols (names bytes) bytes) or_lower sections_fault EntrySizes (table_of bytes)
    (names bytes) bytes))))

unfoldable pub object_sizes : List ℕ → Option ℕ
object_sizes bytes = inner_sizes bytes or_lower too_long bytes

-- ---- sections

-- an allocated section of another type, at its type; a second text, at its flags; a second section of sites, at its name; a bad alignment
unfoldable pub object_form : List ℕ → Option ℕ
object_form bytes =
    further SH_TYPE (first_in (with_role role.Foreign (names bytes) bytes))
    or_lower (further SH_FLAGS (second_in (with_role role.Text (names bytes) bytes))
    or_lower (further 0 (second_in (with_role role.Sites (names bytes) bytes)) or_lower misaligned (names bytes) bytes))

-- ---- names

-- Where there are sections, the header names the table of their names, in which each has a name.
abbrev pub section_names_fault : List ℕ → Option ℕ
section_names_fault bytes =
    if has_strings bytes (word16 bytes E_SHSTRNDX) || (section_count bytes == 0) then nameless bytes else Some E_SHSTRNDX

-- of a symbol table at s: it names a string table, in which each symbol has a name
abbrev pub symbol_names_at : List ℕ → ℕ → Option ℕ
symbol_names_at bytes s = if has_strings bytes (link_of bytes) then symbols_fault Names (table_of bytes) (strings_of bytes) (names bytes)
    bytes else Some (s + SH_LINK)

abbrev pub symbol_names_fault : List ℕ → Found → Option ℕ
symbol_names_fault bytes found = option_and_then (symbol_names_at bytes) (first_in found)

unfoldable pub string_places : List ℕ → Option ℕ
string_places bytes = section_names_fault bytes or_lower symbol_names_fault bytes (with_role role.Symbols (names bytes) bytes)

-- ---- symbols and relocations

abbrev pub kept_relocs : RelocTest → List ℕ → Option ℕ
kept_relocs test bytes =
    relocs_fault test (table_of bytes) (names bytes) bytes (relocs_of role.Text (names bytes) bytes)
    or_lower (relocs_fault test (table_of bytes) (names bytes) bytes (relocs_of role.Init (names bytes) bytes)
    or_lower relocs_fault test (table_of bytes) (names bytes) bytes (relocs_of role.Bss (names bytes) bytes))

unfoldable pub symbol_form : List ℕ → Option ℕ
symbol_form bytes = symbols_fault Globals (table_of bytes) (strings_of bytes) (names bytes) bytes or_lower kept_relocs Named bytes

unfoldable pub reloc_form : List ℕ → Option ℕ
reloc_form bytes = sections_fault Links (table_of bytes) (names bytes) bytes or_lower kept_relocs Form bytes

-- ---- the object

-- the contents of the first section that was found, or these bytes where none was
abbrev pub contents_or : List ℕ → List ℕ → Found → List ℕ
contents_or absent bytes found = option_map_or (contents bytes) (first_in found) absent

-- An absent section of sites counts as one with no sites: "PVS1", and the count 0.
unfoldable pub object_at : List ℕ → ObjectParts
object_at bytes = record {
  text = contents_or [] bytes (with_role role.Text (names bytes) bytes);
  init = joined (names bytes) bytes [] (sections bytes);
  bss = joined_end role.Bss (names bytes) bytes 0 (sections bytes) % 2 ^ 32;
  sites = contents_or (codes "PVS1" ++ 0 ∷ 0 ∷ 0 ∷ 0 ∷ []) bytes (with_role role.Sites (names bytes) bytes);
  symbols = symbols_in (table_of bytes) (strings_of bytes) (names bytes) bytes;
  relocs =
      map (reloc_at (numbers (names bytes) bytes 0 (symbols_of (table_of bytes))) (names bytes) bytes)
      (relocs_of role.Text (names bytes) bytes)
      ++ map (reloc_at (numbers (names bytes) bytes 0 (symbols_of (table_of bytes))) (names bytes) bytes)
      (relocs_of role.Init (names bytes) bytes);
}

-- where a file is wrong as an object by a cause, if it is
abbrev pub wrong_in_object : List ℕ → ElfCause → Option ℕ
wrong_in_object bytes Sizes = object_sizes bytes
wrong_in_object bytes SectionForm = object_form bytes
wrong_in_object bytes Compressed = compressed bytes
wrong_in_object bytes StringPlace = string_places bytes
wrong_in_object bytes SymbolForm = symbol_form bytes
wrong_in_object bytes RelocForm = reloc_form bytes
wrong_in_object bytes _ = None

unfoldable pub wrong_object : List ℕ → ElfCause → Option ℕ
wrong_object bytes cause = wrong_file ET_REL (wrong_in_object bytes) bytes cause

unfoldable pub object_in : List ℕ → Result ObjectParts Fault
object_in bytes = tested (wrong_object bytes) causes (object_at bytes)
