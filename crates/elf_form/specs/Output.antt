-- What files are written of: numbers, and zero bytes up to the next multiple of a size.
use Rattle.std.specs.Prelude.{ℕ, ◌-◌, ◌%◌, List, [], ◌∷◌, ◌++◌, codes}
use Rattle.std.specs.List.{flat_map}
use Rattle.std.specs.Int.{w16, w32, to_le_bytes}
use Rattle.elf_form.specs.declared.abi.TheConstants.{ELFCLASS32, ELFDATA2LSB, EV_CURRENT}

-- the identification (System V ABI, chapter 4, ELF Identification): 0x7F and "ELF", the class, the encoding, the version, and
-- nine zero bytes
abbrev pub identity : List ℕ
identity = 127 ∷ codes "ELF" ++ ELFCLASS32 ∷ ELFDATA2LSB ∷ EV_CURRENT ∷ 0 ∷ 0 ∷ 0 ∷ 0 ∷ 0 ∷ 0 ∷ 0 ∷ 0 ∷ 0 ∷ []

-- numbers of two and of four bytes, the lowest byte first
abbrev pub halves : List ℕ → List ℕ
halves ns = flat_map (to_le_bytes w16) ns

abbrev pub longs : List ℕ → List ℕ
longs ns = flat_map (to_le_bytes w32) ns

-- how many bytes lead from n to the next multiple of k
abbrev pub pad : ℕ → ℕ → ℕ
pad k n = (k - n % k) % k
