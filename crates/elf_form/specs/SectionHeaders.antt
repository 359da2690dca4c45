-- The section headers that are written (System V ABI, chapter 4, Sections).
use Rattle.std.specs.Prelude.{ℕ, ◌+◌, List, [], ◌∷◌}
use Rattle.std.specs.List.{flat_map}
use Rattle.elf_form.specs.declared.abi.TheConstants.{REL_SIZE, SHF_ALLOC, SHF_EXECINSTR, SHF_WRITE, SHT_NOBITS, SHT_NULL, SHT_PROGBITS, SHT_REL, SHT_STRTAB, SHT_SYMTAB, SYM_SIZE}
use Rattle.elf_form.specs.declared.section_header.SectionHeader.{SectionHeader}

-- the fields of a header in their order, each a number of four bytes
abbrev pub fields : SectionHeader → List ℕ
fields h = h.name ∷ h.kind ∷ h.flags ∷ h.address ∷ h.offset ∷ h.size ∷ h.link ∷ h.info ∷ h.alignment ∷ h.entry_size ∷ []

-- the numbers of a table of headers
abbrev pub numbers_of : List SectionHeader → List ℕ
numbers_of headers = flat_map fields headers

-- a header of a section at an address, with so many bytes at an offset in the file
abbrev pub placed : SectionHeader → ℕ → ℕ → ℕ → SectionHeader
placed h address offset size = record h { address = address; offset = offset; size = size }

-- the first header of a table, which stands for no section
abbrev pub no_section : SectionHeader
no_section =
    record { name = 0; kind = SHT_NULL; flags = 0; address = 0; offset = 0; size = 0; link = 0; info = 0; alignment = 0; entry_size = 0 }

-- Text, data, zeroed bytes and annotations begin a table of section headers. Their names stand in this order after a zero byte.
abbrev pub text_section : SectionHeader
text_section = record no_section { name = 1; kind = SHT_PROGBITS; flags = SHF_ALLOC + SHF_EXECINSTR; alignment = 16 }

abbrev pub data_section : SectionHeader
data_section = record no_section { name = 7; kind = SHT_PROGBITS; flags = SHF_WRITE + SHF_ALLOC; alignment = 16 }

abbrev pub bss_section : ℕ → SectionHeader
bss_section alignment = record no_section { name = 13; kind = SHT_NOBITS; flags = SHF_WRITE + SHF_ALLOC; alignment = alignment }

abbrev pub sites_section : SectionHeader
sites_section = record no_section { name = 18; kind = SHT_PROGBITS; alignment = 4 }

-- Relocations of a section: they name symbols of section 7.
abbrev pub relocations_section : ℕ → ℕ → SectionHeader
relocations_section name section = record no_section { name = name; kind = SHT_REL; link = 7; info = section; entry_size = REL_SIZE }

-- Symbols, of which this is the number of the first global one: their names stand in section 8.
abbrev pub symbols_section : ℕ → SectionHeader
symbols_section first_global = record no_section { name = 48; kind = SHT_SYMTAB; link = 8; info = first_global; entry_size = SYM_SIZE }

-- names, each ended by a zero byte
abbrev pub names_section : ℕ → SectionHeader
names_section name = record no_section { name = name; kind = SHT_STRTAB }
