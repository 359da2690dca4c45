-- The one layout of an object file (System V ABI, chapter 4). The order of the parts is the profile's.
use Rattle.std.specs.Prelude.{ℕ, ◌+◌, ◌*◌, true, false, Bool, not, List, [], ◌∷◌, ◌++◌, length, fold, filter, count_by, replicate, codes, if◌then◌else◌}
use Rattle.std.specs.List.{flat_map, position_or_len}
use Rattle.elf_form.specs.declared.object.Place.{Place}
use Rattle.elf_form.specs.declared.object.Place.TheVariants.{Undefined, Text, Init, Bss}
use Rattle.elf_form.specs.declared.object.Symbol.{Symbol}
use Rattle.elf_form.specs.declared.object.Reloc.{Reloc}
use Rattle.elf_form.specs.declared.object_writing.Layout.{Layout}
use Rattle.elf_form.specs.declared.abi.TheConstants.{EHDR_SIZE, EM_386, ET_REL, EV_CURRENT, REL_SIZE, R_386_32, R_386_PC32, SHDR_SIZE, SYM_SIZE}
use Rattle.elf_form.specs.SectionHeaders.{no_section, text_section, data_section, bss_section, sites_section, relocations_section, symbols_section, names_section, placed, numbers_of}
use Rattle.elf_form.specs.ObjectParts.{ObjectParts}
use Rattle.elf_form.specs.Output.{identity, halves, longs, pad}
use Rattle.elf_form.specs.StringTable.{with_name, table_bytes, name_place}

-- the next multiple of 4
unfoldable pub next : ℕ → ℕ
next n = n + pad 4 n

-- the names of the symbols, each once, in the order of their first use, after the empty one; and the string table that has them
unfoldable pub names_of : List Symbol → List (List ℕ)
names_of symbols = fold (λ names s. with_name names s.name) ([] ∷ []) symbols

unfoldable pub strings_of : List Symbol → List ℕ
strings_of symbols = table_bytes (names_of symbols)

-- the relocations of the text, or those of the data
abbrev pub is_of : Bool → Reloc → Bool
is_of in_text r = if in_text then r.in_text else not r.in_text

-- where the parts begin: the text after the header, and each other at the next multiple of 4
unfoldable pub layout : ObjectParts → Layout
layout o =
    let init = next (EHDR_SIZE + length o.text) in
    let sites = next (init + length o.init) in
    let text_relocs = next (sites + length o.sites) in
    let data_relocs = text_relocs + REL_SIZE * count_by (is_of true) o.relocs in
    let symbols = data_relocs + REL_SIZE * count_by (is_of false) o.relocs in
    let strings = symbols + SYM_SIZE * (length o.symbols + 1) in
    let names = next (strings + length (strings_of o.symbols)) in
    record {
      init = init;
      sites = sites;
      text_relocs = text_relocs;
      data_relocs = data_relocs;
      symbols = symbols;
      strings = strings;
      names = names;
      sections = next (names + 74);
    }

-- Section headers 1 to 3 are those of the text, the data and the zeroed bytes.
abbrev pub place_number : Place → ℕ
place_number Undefined = 0
place_number Text = 1
place_number Init = 2
place_number Bss = 3

-- Symbol Table: name, value, size; binding (1 for global) and type, other, section
unfoldable pub symbol_bytes : List (List ℕ) → Symbol → List ℕ
symbol_bytes names s =
    longs (name_place names s.name ∷ s.value ∷ 0 ∷ []) ++ ((if s.global then 16 else 0) ∷ 0 ∷ halves (place_number s.place ∷ []))

-- the null symbol and the symbols in their order
unfoldable pub symbol_table : List Symbol → List ℕ
symbol_table symbols = replicate SYM_SIZE 0 ++ flat_map (symbol_bytes (names_of symbols)) symbols

-- the number in the table of the first global symbol, or of what would follow the last one
abbrev pub first_global : List Symbol → ℕ
first_global symbols = position_or_len (λ s. s.global) symbols + 1

-- Relocation: place; symbol and type. The null symbol comes before symbol 0.
unfoldable pub reloc_bytes : Reloc → List ℕ
reloc_bytes r = longs (r.at ∷ (256 * (r.symbol + 1) + (if r.relative then R_386_PC32 else R_386_32)) ∷ [])

unfoldable pub reloc_table : Bool → List Reloc → List ℕ
reloc_table in_text relocs = flat_map reloc_bytes (filter (is_of in_text) relocs)

-- the names of the sections, each ended by a zero byte
abbrev pub object_names : List ℕ
object_names = 0 ∷ codes ".text" ++ 0 ∷ codes ".data" ++ 0 ∷ codes ".bss" ++ 0 ∷ codes ".pv_sites" ++ 0 ∷ codes ".rel.text"
    ++ 0 ∷ codes ".rel.data" ++ 0 ∷ codes ".symtab" ++ 0 ∷ codes ".strtab" ++ 0 ∷ codes ".shstrtab" ++ 0 ∷ []

unfoldable pub object_header : ObjectParts → List ℕ
object_header o =
    identity
    ++ (halves (ET_REL ∷ EM_386 ∷ [])
    ++ (longs (EV_CURRENT ∷ 0 ∷ 0 ∷ (layout o).sections ∷ 0 ∷ [])
    ++ halves (EHDR_SIZE ∷ 0 ∷ 0 ∷ SHDR_SIZE ∷ 10 ∷ 9 ∷ [])))

-- the section headers of what an object has, and those of the tables
abbrev pub part_sections : ObjectParts → List ℕ
part_sections o = numbers_of (
    no_section
    ∷ placed text_section 0 EHDR_SIZE (length o.text)
    ∷ placed data_section 0 (layout o).init (length o.init)
    ∷ placed (bss_section 16) 0 0 o.bss
    ∷ placed sites_section 0 (layout o).sites (length o.sites) ∷ [])

abbrev pub table_sections : ObjectParts → List ℕ
table_sections o = numbers_of (
    placed (relocations_section 28 1) 0 (layout o).text_relocs (REL_SIZE * count_by (is_of true) o.relocs)
    ∷ placed (relocations_section 38 2) 0 (layout o).data_relocs (REL_SIZE * count_by (is_of false) o.relocs)
    ∷ placed (symbols_section (first_global o.symbols)) 0 (layout o).symbols (SYM_SIZE * (length o.symbols + 1))
    ∷ placed (names_section 56) 0 (layout o).strings (length (strings_of o.symbols))
    ∷ placed (names_section 64) 0 (layout o).names 74 ∷ [])

-- text, data and annotations
unfoldable pub object_parts : ObjectParts → List ℕ
object_parts o =
    o.text ++ (replicate (pad 4 (EHDR_SIZE + length o.text)) 0
    ++ (o.init ++ (replicate (pad 4 ((layout o).init + length o.init)) 0
    ++ (o.sites ++ replicate (pad 4 ((layout o).sites + length o.sites)) 0))))

-- relocations, symbols and names
unfoldable pub object_tables : ObjectParts → List ℕ
object_tables o =
    reloc_table true o.relocs ++ (reloc_table false o.relocs
    ++ (symbol_table o.symbols ++ (strings_of o.symbols ++ (replicate (pad 4 ((layout o).strings + length (strings_of o.symbols))) 0
    ++ (object_names ++ replicate (pad 4 ((layout o).names + 74)) 0)))))

unfoldable pub object_bytes : ObjectParts → List ℕ
object_bytes o = object_header o ++ (object_parts o ++ (object_tables o ++ (longs (part_sections o) ++ longs (table_sections o))))
