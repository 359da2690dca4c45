-- What each section of an object is read as, by its type and its flags (System V ABI, chapter 4, Sections). What is joined and
-- how is the profile's.
use Rattle.std.specs.Prelude.{ℕ, ◌+◌, ◌-◌, ◌/◌, ◌%◌, ◌^◌, Bool, true, false, not, ◌&&◌, ◌||◌, List, [], ◌∷◌, ◌++◌, length, fold, filter, replicate, Option, Some, None, nat_lt, ◌==◌, if◌then◌else◌}
use Rattle.std.specs.List.{find}
use Rattle.guest_ram.specs.Among.{is_among}
use Rattle.guest_ram.specs.Bytes.{word32}
use Rattle.elf_form.specs.declared.abi.TheConstants.{SHF_ALLOC, SHF_EXECINSTR, SHT_NOBITS, SHT_NOTE, SHT_PROGBITS, SHT_REL, SHT_SYMTAB, SH_ADDRALIGN, SH_FLAGS, SH_SIZE, SH_TYPE}
use denote.Enum.Declared.{tag_of}
use Rattle.elf_form.specs.contracts.roles.Role.{the_type}
use Rattle.elf_form.specs.declared.roles.Role.{Role}
use Rattle.elf_form.specs.declared.roles.Role.TheVariants.{Ignored, Sites, Text, Init, Bss, Foreign, Symbols, Relocs}
use Rattle.elf_form.specs.declared.segments.Found.{Found}
use Rattle.elf_form.specs.Output.{pad}
use Rattle.elf_form.specs.Tables.{found, further}
use Rattle.elf_form.specs.Header.{sections}
use Rattle.elf_form.specs.Sections.{contents, is_null, is_sites}

-- by the type and the flags: what is allocated, and what is not
abbrev pub role_by : ℕ → ℕ → Role
role_by kind flags =
    if flags / SHF_ALLOC % 2 == 1
    then (if kind == SHT_PROGBITS then (if flags / SHF_EXECINSTR % 2 == 1 then Text else Init)
    else (if kind == SHT_NOBITS then Bss else (if kind == SHT_NOTE then Ignored else Foreign)))
    else (if kind == SHT_SYMTAB then Symbols else (if kind == SHT_REL then Relocs else Ignored))

-- The section of sites is found by its name.
unfoldable pub role : List ℕ → List ℕ → ℕ → Role
role names bytes s = if is_null bytes s then Ignored
    else (if is_sites names bytes s then Sites else role_by (word32 bytes (s + SH_TYPE)) (word32 bytes (s + SH_FLAGS)))

-- the place of a role in its declaration, by which roles are compared
abbrev pub role_number : Role → ℕ
role_number role = tag_of the_type role

abbrev pub has_role : Role → List ℕ → List ℕ → ℕ → Bool
has_role r names bytes s = role_number (role names bytes s) == role_number r

-- the sections that have it
unfoldable pub with_role : Role → List ℕ → List ℕ → Found
with_role r names bytes = found (filter (has_role r names bytes) (sections bytes))

-- Text, data and zeroed bytes are kept.
abbrev pub is_kept : Role → Bool
is_kept Text = true
is_kept Init = true
is_kept Bss = true
is_kept _ = false

-- ---- joining: each at its alignment, 0 for none

abbrev pub alignment : List ℕ → ℕ → ℕ
alignment bytes s = word32 bytes (s + SH_ADDRALIGN)

abbrev pub size : List ℕ → ℕ → ℕ
size bytes s = word32 bytes (s + SH_SIZE)

abbrev pub up : ℕ → ℕ → ℕ
up a n = if a == 0 then n else n + pad a n

-- 0, or a power of two up to 4,096
abbrev pub alignments : List ℕ
alignments = 0 ∷ 1 ∷ 2 ∷ 4 ∷ 8 ∷ 16 ∷ 32 ∷ 64 ∷ 128 ∷ 256 ∷ 512 ∷ 1024 ∷ 2048 ∷ 4096 ∷ []

abbrev pub is_misaligned : List ℕ → List ℕ → ℕ → Bool
is_misaligned names bytes s = (has_role Init names bytes s || has_role Bss names bytes s) && not (is_among (alignment bytes s) alignments)

unfoldable pub misaligned : List ℕ → List ℕ → Option ℕ
misaligned names bytes = further SH_ADDRALIGN (find (is_misaligned names bytes) (sections bytes))

-- the size field of the first section with which the sizes, in whole pages of 4,096 bytes, sum to 2 ^ 32 or more
unfoldable pub joined_fault : Role → List ℕ → List ℕ → ℕ → List ℕ → Option ℕ
joined_fault r names bytes total [] = None
joined_fault r names bytes total (s ∷ rest) =
    if has_role r names bytes s
    then (if nat_lt (total + (size bytes s + pad 4096 (size bytes s))) 4294967296 then joined_fault r names bytes
    (total + (size bytes s + pad 4096 (size bytes s))) rest else Some (s + SH_SIZE))
    else joined_fault r names bytes total rest

-- where each section begins among those of a role, after the end so far; 0 for the others
unfoldable pub starts : Role → List ℕ → List ℕ → ℕ → List ℕ → List ℕ
starts r names bytes end [] = []
starts r names bytes end (s ∷ rest) =
    if has_role r names bytes s
    then up (alignment bytes s) end % 2 ^ 32 ∷ starts r names bytes (up (alignment bytes s) end + size bytes s) rest
    else 0 ∷ starts r names bytes end rest

-- where the last of them ends
unfoldable pub joined_end : Role → List ℕ → List ℕ → ℕ → List ℕ → ℕ
joined_end r names bytes end ss = fold (λ end s. up (alignment bytes s) end + size bytes s) end (filter (has_role r names bytes) ss)

unfoldable pub with_section : List ℕ → List ℕ → ℕ → List ℕ
with_section bytes init s = init ++ (replicate (up (alignment bytes s) (length init) - length init) 0 ++ contents bytes s)

-- the bytes of the data, each section after zeros up to its alignment
unfoldable pub joined : List ℕ → List ℕ → List ℕ → List ℕ → List ℕ
joined names bytes init ss = fold (with_section bytes) init (filter (has_role Init names bytes) ss)
