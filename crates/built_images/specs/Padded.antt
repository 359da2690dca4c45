-- Objects whose texts are padded instructions, with relocations in their fields and labels between them.
use Rattle.ia32_types.specs.Branches.{is_direct_branch}
use Rattle.std.specs.Prelude.{◌≡◌, ℕ, ◌+◌, ◌<◌, true, List, [], ◌∷◌, ◌++◌, length, filter, All, Ok}
use Rattle.std.specs.List.{AllByRecursion, Contains}
use Rattle.ia32_rows.specs.Fields.{imm_len}
use Rattle.elf_form.specs.declared.object.Place.TheVariants.{Text}
use Rattle.elf_form.specs.declared.object.Symbol.{Symbol}
use Rattle.elf_form.specs.declared.object.Reloc.{Reloc}
use Rattle.elf_form.specs.ObjectParts.{ObjectParts}
use Rattle.elf_form.specs.ObjectLayout.{is_of}
use Rattle.sites.specs.Formats.{listed}
use Rattle.built_images.specs.Fields.{imm_place}
use Rattle.built_images.specs.Chunks.{Coded, insn_in, Chunk, Alone, Pair, AreChunks, chunks_text, chunk_sites}
use Rattle.built_images.specs.Filled.{HaveFields, chunks_relocs}

-- A chunk begins at the offset, or the text ends there.
pub record IsEdge (cs : List Chunk) (at : ℕ) : Type 0 where
  pub before : List Chunk
  pub behind : List Chunk
  pub parts : cs ≡ before ++ behind
  pub place : at ≡ length (chunks_text before)

-- The one relocation of an instruction is the distance in its last four bytes.
pub record IsLinked (c : Coded) : Type 0 where
  pub reloc : Reloc
  pub one : c.relocs ≡ reloc ∷ []
  pub in_text : reloc.in_text ≡ true
  pub relative : reloc.relative ≡ true
  pub long : imm_len c.row.form.immediate ≡ 4
  pub place : reloc.at ≡ imm_place c.row c.bytes
  pub end : reloc.at + 4 ≡ length c.bytes

-- A direct branch is linked so.
abbrev pub IsLinkedBranch : Chunk → Type 0
IsLinkedBranch (Alone c) = is_direct_branch (insn_in c).op ≡ true → IsLinked c
IsLinkedBranch Pair = Unit {0}

pub record IsPadded (o : ObjectParts) (cs : List Chunk) : Type 0 where
  pub chunks : AreChunks cs
  pub fields : HaveFields cs
  pub branches : AllByRecursion IsLinkedBranch cs
  pub text : o.text ≡ chunks_text cs
  pub annotated : listed o.sites ≡ Ok (chunk_sites 0 cs)
  pub relocs : filter (is_of true) o.relocs ≡ chunks_relocs 0 cs
  pub labels : (s : Symbol) → Contains o.symbols s → s.place ≡ Text → IsEdge cs s.value
  pub named : All (λ (r : Reloc). r.symbol < length o.symbols) o.relocs

-- A direct branch whose field holds -4 names a symbol with no number beside it.
abbrev pub IsAlone : Chunk → Type 0
IsAlone (Alone c) = is_direct_branch (insn_in c).op ≡ true → c.parts.imm ≡ 0xFFFFFFFC
IsAlone Pair = Unit {0}

abbrev pub AreAlone : List Chunk → Type 0
AreAlone cs = AllByRecursion IsAlone cs

abbrev pub AnyChunks : List Chunk → Type 0
AnyChunks cs = Unit {0}

-- Objects that are padded, with chunks of which something more holds.
abbrev pub ArePadded : (List Chunk → Type 0) → List ObjectParts → Type 0
ArePadded More os = AllByRecursion (λ (o : ObjectParts). (cs : List Chunk) × IsPadded o cs × More cs) os
