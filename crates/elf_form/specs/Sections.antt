-- The names of sections (System V ABI, chapter 4, Sections and String Table), and the one section that is asked for.
use Rattle.std.specs.Prelude.{ℕ, ◌+◌, ◌*◌, ◌%◌, ◌/◌, Bool, not, ◌&&◌, List, [], ◌∷◌, drop, filter, Option, Some, nat_lt, nat_eq, ◌==◌, codes, ◌++◌, if◌then◌else◌}
use Rattle.std.specs.List.{starts_with, find}
use Rattle.guest_ram.specs.Among.{is_among}
use Rattle.guest_ram.specs.Bytes.{word16, word32, part}
use Rattle.elf_form.specs.declared.abi.TheConstants.{E_SHNUM, E_SHSTRNDX, SHDR_SIZE, SHF_COMPRESSED, SHN_LORESERVE, SHN_UNDEF, SHT_NULL, SHT_STRTAB, SH_FLAGS, SH_OFFSET, SH_SIZE, SH_TYPE}
use Rattle.elf_form.specs.declared.segments.Found.{Found}
use Rattle.elf_form.specs.declared.segments.Found.TheVariants.{Nothing}
use Rattle.elf_form.specs.Tables.{found, second_in, further}
use Rattle.elf_form.specs.Header.{section_table, section_count, sections, has_contents}

-- the bytes of a section
unfoldable pub contents : List ℕ → ℕ → List ℕ
contents bytes s = if has_contents bytes s then part bytes (word32 bytes (s + SH_OFFSET)) (word32 bytes (s + SH_SIZE)) else []

-- an index that names a section (Special Section Indexes): not SHN_UNDEF, and below those that are reserved, from SHN_LORESERVE on
abbrev pub is_index : List ℕ → ℕ → Bool
is_index bytes index = not (index == SHN_UNDEF) && nat_lt index SHN_LORESERVE && nat_lt index (section_count bytes)

abbrev pub section_of : List ℕ → ℕ → ℕ
section_of bytes index = section_table bytes + SHDR_SIZE * index

-- a section that is there and a string table; else there are no names
abbrev pub has_strings : List ℕ → ℕ → Bool
has_strings bytes index = is_index bytes index && (word32 bytes (section_of bytes index + SH_TYPE) == SHT_STRTAB)

unfoldable pub strings_in : List ℕ → ℕ → List ℕ
strings_in bytes index = if has_strings bytes index then contents bytes (section_of bytes index) else []

-- The header names the section that holds the names of sections.
unfoldable pub names : List ℕ → List ℕ
names bytes = strings_in bytes (word16 bytes E_SHSTRNDX)

abbrev pub is_null : List ℕ → ℕ → Bool
is_null bytes s = word32 bytes (s + SH_TYPE) == SHT_NULL

-- A section or a symbol begins with the place of its name in a string table. It has none where no zero byte ends it there.
abbrev pub is_unnamed : List ℕ → List ℕ → ℕ → Bool
is_unnamed strings bytes at = not (is_among 0 (drop (word32 bytes at) strings))

abbrev pub is_nameless : List ℕ → List ℕ → ℕ → Bool
is_nameless names bytes s = not (is_null bytes s) && is_unnamed names bytes s

-- the name ".pv_sites", with the zero byte that ends it
abbrev pub is_sites : List ℕ → List ℕ → ℕ → Bool
is_sites names bytes s = not (is_null bytes s) && starts_with nat_eq (drop (word32 bytes s) names) (codes ".pv_sites" ++ 0 ∷ [])

unfoldable pub sites_sections : List ℕ → Found
sites_sections bytes = found (filter (is_sites (names bytes) bytes) (sections bytes))

-- There is one.
abbrev pub one_of : Found → Option ℕ
one_of Nothing = Some E_SHNUM
one_of found = second_in found

abbrev pub is_compressed : List ℕ → ℕ → Bool
is_compressed bytes s = not (is_null bytes s) && (word32 bytes (s + SH_FLAGS) / SHF_COMPRESSED % 2 == 1)

unfoldable pub compressed : List ℕ → Option ℕ
compressed bytes = further SH_FLAGS (find (is_compressed bytes) (sections bytes))

unfoldable pub nameless : List ℕ → Option ℕ
nameless bytes = find (is_nameless (names bytes) bytes) (sections bytes)
