-- The symbols of an object and its relocations (System V ABI, chapter 4, Symbol Table and Relocation, with the relocation types
-- of its i386 supplement).
use Rattle.std.specs.Prelude.{ℕ, ◌+◌, ◌*◌, ◌-◌, ◌/◌, ◌%◌, ◌^◌, Bool, true, not, ◌&&◌, ◌||◌, List, [], ◌∷◌, length, map, filter, fold, drop, Option, None, nat_lt, ◌==◌, slice_index, if◌then◌else◌}
use Rattle.std.specs.Bool.{then_some}
use Rattle.std.specs.List.{before_first, flat_map}
use Rattle.std.specs.Option.{option_or}
use Rattle.guest_ram.specs.Bytes.{byte, word16, word32}
use Rattle.elf_form.specs.declared.abi.TheConstants.{REL_SIZE, R_386_32, R_386_PC32, R_INFO, SHN_UNDEF, SH_ENTSIZE, SH_INFO, SH_LINK, SH_OFFSET, SH_SIZE, STB_GLOBAL, STB_LOCAL, STB_WEAK, STT_FILE, ST_INFO, ST_SHNDX, ST_VALUE, SYM_SIZE}
use Rattle.elf_form.specs.declared.roles.Role.{Role}
use Rattle.elf_form.specs.declared.roles.Role.TheVariants as role
use Rattle.elf_form.specs.declared.object.Place.{Place}
use Rattle.elf_form.specs.declared.object.Place.TheVariants as place
use Rattle.elf_form.specs.declared.object.Symbol.{Symbol}
use Rattle.elf_form.specs.declared.object.Reloc.{Reloc}
use Rattle.elf_form.specs.declared.segments.Found.{Found}
use Rattle.elf_form.specs.declared.segments.Found.TheVariants.{Nothing}
use Rattle.elf_form.specs.declared.symbols.Table.{Table}
use Rattle.elf_form.specs.declared.symbols.Entry.{Entry}
use Rattle.elf_form.specs.declared.symbols.SectionTest.{SectionTest}
use Rattle.elf_form.specs.declared.symbols.SectionTest.TheVariants.{EntrySizes, Links}
use Rattle.elf_form.specs.declared.symbols.SymbolTest.{SymbolTest}
use Rattle.elf_form.specs.declared.symbols.SymbolTest.TheVariants.{Names, Globals}
use Rattle.elf_form.specs.declared.symbols.RelocTest.{RelocTest}
use Rattle.elf_form.specs.declared.symbols.RelocTest.TheVariants.{Named, Form}
use Rattle.elf_form.specs.Faults.{◌or_lower◌}
use Rattle.elf_form.specs.Tables.{entries, first_some, first_of}
use Rattle.elf_form.specs.Header.{section_count, sections}
use Rattle.elf_form.specs.Sections.{contents, is_index, section_of, is_unnamed}
use Rattle.elf_form.specs.Roles.{role as role_of, role_number, has_role, is_kept, size, starts}

-- ---- the symbol table (Symbol Table): the first section of symbols, 16 bytes for each, the null one first

-- where the table is and how many symbols it has, none where there is no table
abbrev pub table_at : List ℕ → Found → Table
table_at bytes Nothing = record { section = 0; at = 0; count = 0 }
table_at bytes found = let s =
    first_of found in record { section = s; at = word32 bytes (s + SH_OFFSET); count = length (contents bytes s) / SYM_SIZE }

-- the symbols after the null one
abbrev pub symbols_of : Table → List ℕ
symbols_of table = entries (table.at + SYM_SIZE) SYM_SIZE (table.count - 1)

abbrev pub binding : List ℕ → ℕ → ℕ
binding bytes y = byte bytes (y + ST_INFO) / 16

-- a symbol that names the source file
abbrev pub is_file : List ℕ → ℕ → Bool
is_file bytes y = byte bytes (y + ST_INFO) % 16 == STT_FILE

-- ---- places: the sections that are kept

abbrev pub place_by : Role → Place
place_by role.Text = place.Text
place_by role.Init = place.Init
place_by role.Bss = place.Bss
place_by _ = place.Undefined

unfoldable pub role_at : List ℕ → List ℕ → ℕ → Role
role_at names bytes index = if is_index bytes index then role_of names bytes (section_of bytes index) else role.Ignored

-- local or global
abbrev pub has_binding : List ℕ → ℕ → Bool
has_binding bytes y = nat_lt (binding bytes y) STB_WEAK

-- undefined, or in a section that is kept
abbrev pub has_place : List ℕ → List ℕ → ℕ → Bool
has_place names bytes y = word16 bytes (y + ST_SHNDX) == SHN_UNDEF || is_kept (role_at names bytes (word16 bytes (y + ST_SHNDX)))

abbrev pub is_listed : List ℕ → List ℕ → ℕ → Bool
is_listed names bytes y = not (is_file bytes y) && has_binding bytes y && has_place names bytes y

-- where a symbol that is needed is bad
unfoldable pub symbol_fault : List ℕ → List ℕ → ℕ → Option ℕ
symbol_fault names bytes y =
    if is_file bytes y then None
    else option_or (then_some (not (has_binding bytes y)) (y + ST_INFO)) (then_some (not (has_place names bytes y)) (y + ST_SHNDX))

-- one that isn't local is needed
abbrev pub global_fault : List ℕ → List ℕ → ℕ → Option ℕ
global_fault names bytes y = if binding bytes y == STB_LOCAL then None else symbol_fault names bytes y

-- ---- relocations (Relocation), 8 bytes each: those of a section that is kept

abbrev pub target : List ℕ → ℕ → ℕ
target bytes s = word32 bytes (s + SH_INFO)

abbrev pub target_role : List ℕ → List ℕ → ℕ → Role
target_role names bytes s = role_at names bytes (target bytes s)

abbrev pub is_reloc_section : List ℕ → List ℕ → ℕ → Bool
is_reloc_section names bytes s = has_role role.Relocs names bytes s && is_kept (target_role names bytes s)

-- those of a section of one role
abbrev pub is_reloc_section_of : Role → List ℕ → List ℕ → ℕ → Bool
is_reloc_section_of r names bytes s = has_role role.Relocs names bytes s && (role_number (target_role names bytes s) == role_number r)

abbrev pub entry : ℕ → ℕ → Entry
entry s y = record { section = s; at = y }

unfoldable pub relocs_in : List ℕ → ℕ → List Entry
relocs_in bytes s = map (entry s) (entries (word32 bytes (s + SH_OFFSET)) REL_SIZE (length (contents bytes s) / REL_SIZE))

unfoldable pub relocs_of : Role → List ℕ → List ℕ → List Entry
relocs_of r names bytes = flat_map (relocs_in bytes) (filter (is_reloc_section_of r names bytes) (sections bytes))

-- ---- the tests of sections, of symbols and of relocations

-- a size that is no multiple of that of an entry, or another size of entries
abbrev pub entries_fault : ℕ → List ℕ → ℕ → Option ℕ
entries_fault entry bytes s = option_or (then_some (not (size bytes s % entry == 0)) (s + SH_SIZE))
    (then_some (not (word32 bytes (s + SH_ENTSIZE) == entry)) (s + SH_ENTSIZE))

-- the section that a section names is the symbol table
abbrev pub is_linked : Table → List ℕ → List ℕ → ℕ → Bool
is_linked table names bytes s = (role_number (role_at names bytes (word32 bytes (s + SH_LINK))) == role_number role.Symbols)
    && (section_of bytes (word32 bytes (s + SH_LINK)) == table.section)

abbrev pub section_test : SectionTest → Table → List ℕ → List ℕ → ℕ → Option ℕ
section_test EntrySizes table names bytes s = if is_reloc_section names bytes s then entries_fault REL_SIZE bytes s else None
section_test Links table names bytes s =
    if is_reloc_section names bytes s then then_some (not (is_linked table names bytes s)) (s + SH_LINK) else None

unfoldable pub sections_fault : SectionTest → Table → List ℕ → List ℕ → Option ℕ
sections_fault test table names bytes = first_some (section_test test table names bytes) (sections bytes)

abbrev pub symbol_test : SymbolTest → List ℕ → List ℕ → List ℕ → ℕ → Option ℕ
symbol_test Names strings names bytes y = then_some (is_unnamed strings bytes y) y
symbol_test Globals strings names bytes y = global_fault names bytes y

unfoldable pub symbols_fault : SymbolTest → Table → List ℕ → List ℕ → List ℕ → Option ℕ
symbols_fault test table strings names bytes = first_some (symbol_test test strings names bytes) (symbols_of table)

-- the number of the symbol that a relocation names; whether the table has it, after the null one
abbrev pub named_symbol : List ℕ → ℕ → ℕ
named_symbol bytes y = word32 bytes (y + R_INFO) / 256

abbrev pub has_symbol : Table → List ℕ → ℕ → Bool
has_symbol table bytes y = not (named_symbol bytes y == 0) && nat_lt (named_symbol bytes y) table.count

abbrev pub symbol_of : Table → List ℕ → ℕ → ℕ
symbol_of table bytes y = table.at + SYM_SIZE * named_symbol bytes y

unfoldable pub size_at : List ℕ → ℕ → ℕ
size_at bytes index = if nat_lt index (section_count bytes) then size bytes (section_of bytes index) else 0

-- the field is not inside its section, or that has no bytes
abbrev pub is_outside : List ℕ → List ℕ → Entry → Bool
is_outside names bytes e = (role_number (target_role names bytes e.section) == role_number role.Bss)
    || nat_lt (size_at bytes (target bytes e.section)) (word32 bytes e.at + 4)

-- an address or a distance (i386 supplement, Relocation Types)
abbrev pub has_kind : List ℕ → ℕ → Bool
has_kind bytes y = (word32 bytes (y + R_INFO) % 256 == R_386_32) || (word32 bytes (y + R_INFO) % 256 == R_386_PC32)

-- it names no symbol, or one for a file
abbrev pub names_none : Table → List ℕ → ℕ → Bool
names_none table bytes y = if has_symbol table bytes y then is_file bytes (symbol_of table bytes y) else true

abbrev pub named_fault : Table → List ℕ → List ℕ → ℕ → Option ℕ
named_fault table names bytes y = if has_symbol table bytes y then symbol_fault names bytes (symbol_of table bytes y) else None

abbrev pub form_fault : Table → List ℕ → List ℕ → Entry → Option ℕ
form_fault table names bytes e = option_or (then_some (is_outside names bytes e) e.at)
    (then_some (not (has_kind bytes e.at) || names_none table bytes e.at) (e.at + R_INFO))

abbrev pub reloc_test : RelocTest → Table → List ℕ → List ℕ → Entry → Option ℕ
reloc_test Named table names bytes e = named_fault table names bytes e.at
reloc_test Form table names bytes e = form_fault table names bytes e

-- the lowest place of those that relocations give
unfoldable pub relocs_fault : RelocTest → Table → List ℕ → List ℕ → List Entry → Option ℕ
relocs_fault test table names bytes relocs = fold (λ lowest e. lowest or_lower reloc_test test table names bytes e) None relocs

-- ---- what is read

-- where what is in a section begins, in what it is joined to
abbrev pub start_in : Role → List ℕ → List ℕ → ℕ → ℕ
start_in role.Init init_starts bss_starts index = slice_index init_starts index
start_in role.Bss init_starts bss_starts index = slice_index bss_starts index
start_in r init_starts bss_starts index = 0

unfoldable pub start_at : List ℕ → List ℕ → ℕ → ℕ
start_at names bytes index = start_in (role_at names bytes index) (starts role.Init names bytes 0 (sections bytes))
    (starts role.Bss names bytes 0 (sections bytes)) index

-- A name ends before the first zero byte.
abbrev pub name_in : List ℕ → ℕ → List ℕ
name_in strings at = before_first (λ b. b == 0) (drop at strings)

-- Sums are modulo 2 ^ 32.
unfoldable pub symbol_at : List ℕ → List ℕ → List ℕ → ℕ → Symbol
symbol_at strings names bytes y = record {
  name = name_in strings (word32 bytes y);
  place = place_by (role_at names bytes (word16 bytes (y + ST_SHNDX)));
  value = (start_at names bytes (word16 bytes (y + ST_SHNDX)) + word32 bytes (y + ST_VALUE)) % 2 ^ 32;
  global = binding bytes y == STB_GLOBAL;
}

-- how many symbols that are listed come before each symbol, after n
unfoldable pub numbers : List ℕ → List ℕ → ℕ → List ℕ → List ℕ
numbers names bytes n [] = []
numbers names bytes n (y ∷ ys) = n ∷ numbers names bytes (if is_listed names bytes y then n + 1 else n) ys

-- A relocation names its symbol by its number among those that are listed.
unfoldable pub reloc_at : List ℕ → List ℕ → List ℕ → Entry → Reloc
reloc_at numbers names bytes e = record {
  in_text = role_number (target_role names bytes e.section) == role_number role.Text;
  at = (start_at names bytes (target bytes e.section) + word32 bytes e.at) % 2 ^ 32;
  symbol = slice_index numbers (named_symbol bytes e.at - 1);
  relative = word32 bytes (e.at + R_INFO) % 256 == R_386_PC32;
}

unfoldable pub symbols_in : Table → List ℕ → List ℕ → List ℕ → List Symbol
symbols_in table strings names bytes = map (symbol_at strings names bytes) (filter (is_listed names bytes) (symbols_of table))
