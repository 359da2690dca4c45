-- Padded instructions whose fields are filled by relocations.
use Rattle.std.specs.Prelude.{◌≡◌, ◌⊎◌, ℕ, ◌+◌, ◌<◌, ◌^◌, List, [], ◌∷◌, ◌++◌, length, map, fold}
use Rattle.std.specs.List.{AllByRecursion}
use Rattle.guest_ram.specs.Bytes.{word32, with_word32}
use Rattle.ia32_rows.specs.Fields.{imm_len}
use Rattle.elf_form.specs.declared.object.Reloc.{Reloc}
use Rattle.built_images.specs.Fields.{disp_place, imm_place}
use Rattle.built_images.specs.Chunks.{Coded, Chunk, Alone, Pair, chunk_text}

-- The offset is that of a displacement or of an immediate of four bytes.
abbrev pub IsField : Coded → ℕ → Type 0
IsField c at =
    ((c.parts.disp_len ≡ 4) × (at ≡ disp_place c.row c.bytes)) ⊎ ((imm_len c.row.form.immediate ≡ 4) × (at ≡ imm_place c.row c.bytes))

-- Each relocation stands in a field.
abbrev pub HasFields : Chunk → Type 0
HasFields (Alone c) = AllByRecursion (λ (r : Reloc). IsField c r.at) c.relocs
HasFields Pair = Unit {0}

abbrev pub HaveFields : List Chunk → Type 0
HaveFields cs = AllByRecursion HasFields cs

-- a relocation so many bytes further on, and those of chunks from an offset on
abbrev pub reloc_later : ℕ → Reloc → Reloc
reloc_later n r = record r { at = n + r.at }

abbrev pub chunk_relocs : ℕ → Chunk → List Reloc
chunk_relocs at (Alone c) = map (reloc_later at) c.relocs
chunk_relocs at Pair = []

unfoldable pub chunks_relocs : ℕ → List Chunk → List Reloc
chunks_relocs at [] = []
chunks_relocs at (c ∷ cs) = chunk_relocs at c ++ chunks_relocs (at + length (chunk_text c)) cs

-- bytes with a field filled, by what is made of the word that stood there
abbrev pub fill : (Reloc → ℕ → ℕ) → List ℕ → Reloc → List ℕ
fill made bytes r = with_word32 bytes r.at (made r (word32 bytes r.at))

-- the same for the bytes of an instruction that stands at an offset
abbrev pub fill_at : (Reloc → ℕ → ℕ) → ℕ → List ℕ → Reloc → List ℕ
fill_at made at bytes r = with_word32 bytes r.at (made (reloc_later at r) (word32 bytes r.at))

-- what is made is a word
abbrev pub MakesWords : (Reloc → ℕ → ℕ) → Type 0
MakesWords made = (r : Reloc) (n : ℕ) → made r n < 2 ^ 32

-- The second instruction is the first with its fields filled: by the same row, in as many bytes, with the same relocations.
pub record IsFilled (made : Reloc → ℕ → ℕ) (at : ℕ) (c d : Coded) : Type 0 where
  pub row : d.row ≡ c.row
  pub relocs : d.relocs ≡ c.relocs
  pub disp : d.parts.disp_len ≡ c.parts.disp_len
  pub len : length d.bytes ≡ length c.bytes
  pub bytes : d.bytes ≡ fold (fill_at made at) c.bytes c.relocs

abbrev pub IsFilledChunk : (Reloc → ℕ → ℕ) → ℕ → Chunk → Chunk → Type 0
IsFilledChunk made at (Alone c) (Alone d) = IsFilled made at c d
IsFilledChunk made at Pair Pair = Unit {0}
IsFilledChunk made at _ _ = ⊥

abbrev pub AreFilled : (Reloc → ℕ → ℕ) → ℕ → List Chunk → List Chunk → Type 0
AreFilled made at [] [] = Unit {0}
AreFilled made at (c ∷ cs) (d ∷ ds) = IsFilledChunk made at c d × AreFilled made (at + length (chunk_text c)) cs ds
AreFilled made at _ _ = ⊥
