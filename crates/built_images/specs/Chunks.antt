-- Texts as burning makes them: instructions, of which the sensitive ones are followed by NOPs up to five bytes; and STI with
-- HLT after it.
use Rattle.std.specs.Prelude.{◌≡◌, ℕ, ◌+◌, List, [], ◌∷◌, ◌++◌, length, replicate}
use Rattle.std.specs.List.{flat_map, AllByRecursion, Contains}
use Rattle.ia32_types.specs.declared.insn.Insn.{Insn}
use Rattle.ia32_types.specs.declared.site.SiteKind.TheVariants.{StiHlt}
use Rattle.ia32_types.specs.Site.{sensitive_kind}
use Rattle.ia32_rows.specs.declared.row.Row.{Row}
use Rattle.ia32_rows.specs.declared.row.Parts.{Parts}
use Rattle.ia32_rows.specs.Spelling.{insn_of}
use Rattle.ia32_rows.specs.Spells.{SpellsBy}
use Rattle.ia32_rows.specs.Rows.{rows}
use Rattle.elf_form.specs.declared.object.Reloc.{Reloc}
use Rattle.sites.specs.declared.site.Site.{Site}
use Rattle.image_check.specs.Sweep.{Swept}
use Rattle.afterburner.specs.Instructions.{nops_behind, site_at}
use Rattle.built_images.specs.Joined.{sti, hlt, nops_at}

-- an instruction by the row and the parts that spell it, its bytes, and the relocations of its fields, with places from its
-- first byte on
pub record Coded : Type 0 where
  pub row : Row
  pub parts : Parts
  pub bytes : List ℕ
  pub relocs : List Reloc

abbrev pub insn_in : Coded → Insn
insn_in c = insn_of c.row c.parts

pub record IsCoded (c : Coded) : Type 0 where
  pub listed : Contains rows c.row
  pub spelled : SpellsBy c.row c.parts c.bytes (insn_in c)

-- An instruction with the NOPs that it needs, or STI, HLT and three NOPs.
pub data Chunk : Type 0 where
  Alone : Coded → Chunk
  Pair : Chunk

abbrev pub IsChunk : Chunk → Type 0
IsChunk (Alone c) = IsCoded c
IsChunk Pair = Unit {0}

abbrev pub AreChunks : List Chunk → Type 0
AreChunks cs = AllByRecursion IsChunk cs

-- how many NOPs follow
abbrev pub padding : Coded → ℕ
padding c = nops_behind (sensitive_kind (insn_in c)) (length c.bytes)

abbrev pub chunk_text : Chunk → List ℕ
chunk_text (Alone c) = c.bytes ++ replicate (padding c) 0x90
chunk_text Pair = 0xFB ∷ 0xF4 ∷ 0x90 ∷ 0x90 ∷ 0x90 ∷ []

abbrev pub chunks_text : List Chunk → List ℕ
chunks_text cs = flat_map chunk_text cs

-- the site of a chunk that stands at an offset
abbrev pub chunk_site : ℕ → Chunk → List Site
chunk_site at (Alone c) = site_at at (sensitive_kind (insn_in c)) (length c.bytes)
chunk_site at Pair = record { at = at; kind = StiHlt; len = 2; total = 5 } ∷ []

-- the sites of chunks from an offset on
unfoldable pub chunk_sites : ℕ → List Chunk → List Site
chunk_sites at [] = []
chunk_sites at (c ∷ cs) = chunk_site at c ++ chunk_sites (at + length (chunk_text c)) cs

-- the instructions of chunks from an offset on
abbrev pub chunk_swept : ℕ → Chunk → List Swept
chunk_swept at (Alone c) = record { at = at; len = length c.bytes; insn = insn_in c } ∷ nops_at (at + length c.bytes) (padding c)
chunk_swept at Pair = record { at = at; len = 1; insn = sti } ∷ record { at = at + 1; len = 1; insn = hlt } ∷ nops_at (at + 2) 3

unfoldable pub chunks_swept : ℕ → List Chunk → List Swept
chunks_swept at [] = []
chunks_swept at (c ∷ cs) = chunk_swept at c ++ chunks_swept (at + length (chunk_text c)) cs

-- A chunk begins at the offset.
pub record Begins (cs : List Chunk) (at : ℕ) : Type 0 where
  pub before : List Chunk
  pub chunk : Chunk
  pub behind : List Chunk
  pub parts : cs ≡ before ++ (chunk ∷ behind)
  pub place : at ≡ length (chunks_text before)
