-- Why a file is no object or no image: each cause by the condition that it stands for, with the offset of the bad field (System V
-- ABI, chapters 4 and 5; which files are read is the profile's).
use Rattle.std.specs.Prelude.{◌≡◌, ◌≢◌, ◌⊎◌, ℕ, ◌+◌, ◌%◌, ◌^◌, ◌≤◌, ◌<◌, true, false, List, [], ◌∷◌, ◌++◌, length, filter, slice_get, Some, Result, Err}
use Rattle.std.specs.List.{Contains, sum_by}
use Rattle.guest_ram.specs.Bytes.{byte, word16, word32}
use Rattle.elf_form.specs.declared.segments.TheConstants.{FILE_LIMIT}
use Rattle.elf_form.specs.declared.abi.TheConstants.{EHDR_SIZE, EI_CLASS, EI_DATA, EI_VERSION, ELFCLASS32, ELFDATA2LSB, ELFMAG, EM_386, ET_EXEC, ET_REL, EV_CURRENT, E_EHSIZE, E_MACHINE, E_PHENTSIZE, E_PHNUM, E_SHENTSIZE, E_SHNUM, E_SHSTRNDX, E_TYPE, E_VERSION, PF_X, PHDR_SIZE, P_FILESZ, P_FLAGS, P_MEMSZ, REL_SIZE, R_INFO, SHDR_SIZE, SH_ADDRALIGN, SH_ENTSIZE, SH_FLAGS, SH_LINK, SH_SIZE, SH_TYPE, STB_LOCAL, ST_INFO, ST_SHNDX, SYM_SIZE}
use Rattle.elf_form.specs.declared.cause.ElfCause.{ElfCause}
use Rattle.elf_form.specs.declared.cause.ElfCause.TheVariants.{Truncated, Magic, Class, Encoding, Version, FileType, Machine, Sizes, SectionForm, Compressed, StringPlace, SymbolForm, RelocForm}
use Rattle.elf_form.specs.declared.roles.Role.{Role}
use Rattle.elf_form.specs.declared.roles.Role.TheVariants as role
use Rattle.elf_form.specs.declared.symbols.Entry.{Entry}
use Rattle.elf_form.specs.ImageParts.{ImageParts}
use Rattle.elf_form.specs.ObjectParts.{ObjectParts}
use Rattle.elf_form.specs.Faults.{Fault, causes}
use Rattle.elf_form.specs.Output.{pad}
use Rattle.elf_form.specs.Header.{section_count, headers, sections, named_parts}
use Rattle.elf_form.specs.Segments.{is_load}
use Rattle.elf_form.specs.Sections.{names, is_sites, is_nameless, is_compressed, is_unnamed, has_strings}
use Rattle.elf_form.specs.Roles.{role as role_of, has_role, is_kept, alignment, alignments, size}
use Rattle.elf_form.specs.Symbols.{symbols_of, binding, is_file, has_binding, has_place, target_role, relocs_in, is_linked, has_symbol, symbol_of, is_outside, has_kind, names_none}
use Rattle.elf_form.specs.ObjectReading.{table_of, strings_of, link_of}
use Rattle.elf_form.specs.Order.{IsPast, IsLowest, IsRefused}

-- ---- sections

-- the offset of a section's header
abbrev pub IsSectionAt : List ℕ → ℕ → Type 0
IsSectionAt bytes s = Contains (sections bytes) s

-- a section that is read as this
abbrev pub IsOf : Role → List ℕ → ℕ → Type 0
IsOf r bytes s = IsSectionAt bytes s × (role_of (names bytes) bytes s ≡ r)

-- one of some sections, after another of them
abbrev pub IsSecond : (ℕ → Type 0) → ℕ → Type 0
IsSecond P s = P s × (t : ℕ) × P t × (t < s)

-- the sections named `.pv_sites`
abbrev pub IsNamedSites : List ℕ → ℕ → Type 0
IsNamedSites bytes s = IsSectionAt bytes s × (is_sites (names bytes) bytes s ≡ true)

-- ---- sizes

-- a section's bytes, in whole pages of 4,096
abbrev pub in_pages : List ℕ → ℕ → ℕ
in_pages bytes s = size bytes s + pad 4096 (size bytes s)

-- A section with which those that are read as this take 2^32 bytes or more together.
pub record IsTooMuch (r : Role) (bytes : List ℕ) (s : ℕ) : Type 0 where
  pub before : List ℕ
  pub later : List ℕ
  pub sections_are : sections bytes ≡ before ++ s ∷ later
  pub reads : role_of (names bytes) bytes s ≡ r
  pub together : 2 ^ 32 ≤ sum_by (in_pages bytes) (filter (has_role r (names bytes) bytes) (before ++ s ∷ []))

-- the symbol table: the first section of symbols
abbrev pub IsSymbolTable : List ℕ → ℕ → Type 0
IsSymbolTable bytes s = IsLowest (IsOf role.Symbols bytes) s

-- the relocations of a section that is kept
abbrev pub IsRelocs : List ℕ → ℕ → Type 0
IsRelocs bytes s = IsOf role.Relocs bytes s × (is_kept (target_role (names bytes) bytes s) ≡ true)

-- a size that is no multiple of that of an entry, or another size of entries
pub data IsBadEntrySize (entry : ℕ) (bytes : List ℕ) (s at : ℕ) : Type 0 where
  uneven : size bytes s % entry ≢ 0 → at ≡ s + SH_SIZE → IsBadEntrySize entry bytes s at
  other : word32 bytes (s + SH_ENTSIZE) ≢ entry → at ≡ s + SH_ENTSIZE → IsBadEntrySize entry bytes s at

-- A size of an object that is wrong: e_ehsize, e_shentsize, sh_size of a section with which those that are joined are too much,
-- sh_size and sh_entsize of the symbol table and of relocations, or the file's own.
pub data IsBadObjectSize (bytes : List ℕ) (at : ℕ) : Type 0 where
  header : word16 bytes E_EHSIZE ≢ EHDR_SIZE → at ≡ E_EHSIZE → IsBadObjectSize bytes at
  section_header : word16 bytes E_SHENTSIZE ≢ SHDR_SIZE → at ≡ E_SHENTSIZE → IsBadObjectSize bytes at
  init : (s : ℕ) → IsTooMuch role.Init bytes s → at ≡ s + SH_SIZE → IsBadObjectSize bytes at
  bss : (s : ℕ) → IsTooMuch role.Bss bytes s → at ≡ s + SH_SIZE → IsBadObjectSize bytes at
  symbols : (s : ℕ) → IsSymbolTable bytes s → IsBadEntrySize SYM_SIZE bytes s at → IsBadObjectSize bytes at
  relocs : (s : ℕ) → IsRelocs bytes s → IsBadEntrySize REL_SIZE bytes s at → IsBadObjectSize bytes at
  file : FILE_LIMIT < length bytes → at ≡ FILE_LIMIT → IsBadObjectSize bytes at

-- the program headers of parts that are loaded
abbrev pub loaded : List ℕ → List ℕ
loaded bytes = filter (is_load bytes) (headers bytes)

-- A size of an image that is wrong: e_ehsize, e_phentsize, e_shentsize, p_memsz of the first and of the second part that is
-- loaded, or the file's own.
pub data IsBadImageSize (bytes : List ℕ) (at : ℕ) : Type 0 where
  header : word16 bytes E_EHSIZE ≢ EHDR_SIZE → at ≡ E_EHSIZE → IsBadImageSize bytes at
  program_header : word16 bytes E_PHENTSIZE ≢ PHDR_SIZE → at ≡ E_PHENTSIZE → IsBadImageSize bytes at
  section_header : word16 bytes E_SHENTSIZE ≢ SHDR_SIZE → at ≡ E_SHENTSIZE → IsBadImageSize bytes at
  first : (h : ℕ) → slice_get (loaded bytes) 0 ≡ Some h → word32 bytes (h + P_MEMSZ) ≢ word32 bytes (h + P_FILESZ) → at ≡ h + P_MEMSZ
      → IsBadImageSize bytes at
  second : (h : ℕ) → slice_get (loaded bytes) 1 ≡ Some h → word32 bytes (h + P_MEMSZ) < word32 bytes (h + P_FILESZ) → at ≡ h + P_MEMSZ
      → IsBadImageSize bytes at
  file : FILE_LIMIT < length bytes → at ≡ FILE_LIMIT → IsBadImageSize bytes at

-- ---- sections and segments

-- A section that an object may not have: an allocated one of another type (at sh_type), a second text (at sh_flags), a second
-- section of sites (at sh_name), data or zeroed bytes at another alignment (at sh_addralign).
pub data IsBadSection (bytes : List ℕ) (at : ℕ) : Type 0 where
  foreign : (s : ℕ) → IsOf role.Foreign bytes s → at ≡ s + SH_TYPE → IsBadSection bytes at
  text : (s : ℕ) → IsSecond (IsOf role.Text bytes) s → at ≡ s + SH_FLAGS → IsBadSection bytes at
  sites : (s : ℕ) → IsSecond (IsOf role.Sites bytes) s → at ≡ s → IsBadSection bytes at
  aligned : (s : ℕ) → IsOf role.Init bytes s ⊎ IsOf role.Bss bytes s → (Contains alignments (alignment bytes s) → ⊥) → at ≡ s + SH_ADDRALIGN
      → IsBadSection bytes at

-- Two program headers are loaded, and the first alone is executable.
pub record AreTwo (bytes : List ℕ) : Type 0 where
  pub text : ℕ
  pub init : ℕ
  pub are : loaded bytes ≡ text ∷ init ∷ []
  pub executable : word32 bytes (text + P_FLAGS) % 2 ≡ PF_X
  pub other : word32 bytes (init + P_FLAGS) % 2 ≢ PF_X

-- Program headers in another number or order (at e_phnum), no section of sites (at e_shnum), or a second one (at sh_name).
pub data IsBadPart (bytes : List ℕ) (at : ℕ) : Type 0 where
  program : (AreTwo bytes → ⊥) → at ≡ E_PHNUM → IsBadPart bytes at
  none : ((s : ℕ) → IsNamedSites bytes s → ⊥) → at ≡ E_SHNUM → IsBadPart bytes at
  sites : (s : ℕ) → IsSecond (IsNamedSites bytes) s → at ≡ s → IsBadPart bytes at

-- a section with the flag SHF_COMPRESSED, at sh_flags
abbrev pub IsCompressed : List ℕ → ℕ → Type 0
IsCompressed bytes at = (s : ℕ) × IsSectionAt bytes s × (is_compressed bytes s ≡ true) × (at ≡ s + SH_FLAGS)

-- ---- names

-- a section whose name no zero byte ends within the names
abbrev pub IsNameless : List ℕ → ℕ → Type 0
IsNameless bytes s = IsSectionAt bytes s × (is_nameless (names bytes) bytes s ≡ true)

-- The header names no table of names (at e_shstrndx), a section's name doesn't end in it (at sh_name), the symbol table names no
-- string table (at sh_link), or a symbol's name doesn't end in that (at st_name).
pub data IsBadName (bytes : List ℕ) (at : ℕ) : Type 0 where
  no_names : has_strings bytes (word16 bytes E_SHSTRNDX) ≡ false → section_count bytes ≢ 0 → at ≡ E_SHSTRNDX → IsBadName bytes at
  section : has_strings bytes (word16 bytes E_SHSTRNDX) ≡ true → IsNameless bytes at → IsBadName bytes at
  no_table : (s : ℕ) → IsSymbolTable bytes s → has_strings bytes (word32 bytes (s + SH_LINK)) ≡ false → at ≡ s + SH_LINK
      → IsBadName bytes at
  symbol : has_strings bytes (link_of bytes) ≡ true → Contains (symbols_of (table_of bytes)) at
      → is_unnamed (strings_of bytes) bytes at ≡ true → IsBadName bytes at

-- ---- symbols and relocations

-- a relocation of a section that is kept
abbrev pub IsReloc : List ℕ → Entry → Type 0
IsReloc bytes e = (s : ℕ) × IsRelocs bytes s × Contains (relocs_in bytes s) e

-- A symbol is needed: it isn't local, or a relocation names it.
pub data IsNeeded (bytes : List ℕ) (y : ℕ) : Type 0 where
  global : Contains (symbols_of (table_of bytes)) y → binding bytes y ≢ STB_LOCAL → IsNeeded bytes y
  named : (e : Entry) → IsReloc bytes e → has_symbol (table_of bytes) bytes e.at ≡ true
      → y ≡ symbol_of (table_of bytes) bytes e.at → IsNeeded bytes y

-- It is neither local nor global (at st_info), or neither undefined nor in a section that is kept (at st_shndx). A symbol for a
-- file is never bad.
pub data IsBadSymbol (bytes : List ℕ) (at : ℕ) : Type 0 where
  bound : (y : ℕ) → IsNeeded bytes y → is_file bytes y ≡ false → has_binding bytes y ≡ false → at ≡ y + ST_INFO → IsBadSymbol bytes at
  placed : (y : ℕ) → IsNeeded bytes y → is_file bytes y ≡ false → has_place (names bytes) bytes y ≡ false → at ≡ y + ST_SHNDX
      → IsBadSymbol bytes at

-- Relocations use another section than the symbol table (at sh_link), a field isn't inside its section (at r_offset), a
-- relocation is of another type than R_386_32 and R_386_PC32, or names no symbol (at r_info).
pub data IsBadReloc (bytes : List ℕ) (at : ℕ) : Type 0 where
  link : (s : ℕ) → IsRelocs bytes s → is_linked (table_of bytes) (names bytes) bytes s ≡ false → at ≡ s + SH_LINK → IsBadReloc bytes at
  outside : (e : Entry) → IsReloc bytes e → is_outside (names bytes) bytes e ≡ true → at ≡ e.at → IsBadReloc bytes at
  kind : (e : Entry) → IsReloc bytes e → has_kind bytes e.at ≡ false → at ≡ e.at + R_INFO → IsBadReloc bytes at
  symbol : (e : Entry) → IsReloc bytes e → names_none (table_of bytes) bytes e.at ≡ true → at ≡ e.at + R_INFO → IsBadReloc bytes at

-- ---- all causes

-- the fields of the header that have one value
abbrev pub IsBadVersion : List ℕ → ℕ → Type 0
IsBadVersion bytes at =
    ((byte bytes EI_VERSION ≢ EV_CURRENT) × (at ≡ EI_VERSION)) ⊎ ((word32 bytes E_VERSION ≢ EV_CURRENT) × (at ≡ E_VERSION))

-- A file of a type (ET_REL an object, ET_EXEC an image) is bad by a cause at this place. The other causes are given for what
-- follows the header.
abbrev pub IsBadFile : ℕ → (ElfCause → ℕ → Type 0) → List ℕ → ElfCause → ℕ → Type 0
IsBadFile wanted inner bytes Truncated at = IsPast (length bytes) (named_parts bytes) at
IsBadFile wanted inner bytes Magic at = (word32 bytes 0 ≢ ELFMAG) × (at ≡ 0)
IsBadFile wanted inner bytes Class at = (byte bytes EI_CLASS ≢ ELFCLASS32) × (at ≡ EI_CLASS)
IsBadFile wanted inner bytes Encoding at = (byte bytes EI_DATA ≢ ELFDATA2LSB) × (at ≡ EI_DATA)
IsBadFile wanted inner bytes Version at = IsBadVersion bytes at
IsBadFile wanted inner bytes FileType at = (word16 bytes E_TYPE ≢ wanted) × (at ≡ E_TYPE)
IsBadFile wanted inner bytes Machine at = (word16 bytes E_MACHINE ≢ EM_386) × (at ≡ E_MACHINE)
IsBadFile wanted inner bytes cause at = inner cause at

abbrev pub IsBadInObject : List ℕ → ElfCause → ℕ → Type 0
IsBadInObject bytes Sizes at = IsBadObjectSize bytes at
IsBadInObject bytes SectionForm at = IsBadSection bytes at
IsBadInObject bytes Compressed at = IsCompressed bytes at
IsBadInObject bytes StringPlace at = IsBadName bytes at
IsBadInObject bytes SymbolForm at = IsBadSymbol bytes at
IsBadInObject bytes RelocForm at = IsBadReloc bytes at
IsBadInObject bytes _ at = ⊥

abbrev pub IsBadInImage : List ℕ → ElfCause → ℕ → Type 0
IsBadInImage bytes Sizes at = IsBadImageSize bytes at
IsBadInImage bytes SectionForm at = IsBadPart bytes at
IsBadInImage bytes Compressed at = IsCompressed bytes at
IsBadInImage bytes StringPlace at = IsNameless bytes at
IsBadInImage bytes _ at = ⊥

abbrev pub IsBadObject : List ℕ → ElfCause → ℕ → Type 0
IsBadObject bytes cause at = IsBadFile ET_REL (IsBadInObject bytes) bytes cause at

abbrev pub IsBadImage : List ℕ → ElfCause → ℕ → Type 0
IsBadImage bytes cause at = IsBadFile ET_EXEC (IsBadInImage bytes) bytes cause at

-- A file is no object, or no image: it is bad by a cause, and by none before it.
abbrev pub IsRefusedObject : List ℕ → ℕ → ElfCause → Type 0
IsRefusedObject bytes at cause = IsRefused (IsBadObject bytes) causes bytes at cause

abbrev pub IsRefusedImage : List ℕ → ℕ → ElfCause → Type 0
IsRefusedImage bytes at cause = IsRefused (IsBadImage bytes) causes bytes at cause

-- the refusal of an object, and of an image
abbrev pub no_object : ℕ → ElfCause → Result ObjectParts Fault
no_object at cause = Err (record { at = at; cause = cause })

abbrev pub no_image : ℕ → ElfCause → Result ImageParts Fault
no_image at cause = Err (record { at = at; cause = cause })
