-- What is said of the chosen spelling: which row has it, what its bytes are, and how they are read back.
use Rattle.std.specs.Prelude.{◌≡◌, ℕ, ◌+◌, ◌^◌, ◌<◌, ◌≤◌, true, List, ◌++◌, slice_index_or, take, IsTrue}
use Rattle.std.specs.List.{Contains}
use Rattle.ia32_types.specs.declared.insn.Insn.{Insn}
use Rattle.ia32_types.specs.declared.insn.Operand.{Operand}
use Rattle.ia32_types.specs.declared.insn.Operand.TheVariants as operand
use Rattle.ia32_rows.specs.declared.row.Row.{Row}
use Rattle.ia32_rows.specs.declared.row.Parts.{Parts}
use Rattle.ia32_rows.specs.Fields.{imm_len}
use Rattle.ia32_rows.specs.Spelling.{insn_of}
use Rattle.ia32_rows.specs.Spells.{SpellsBy}
use Rattle.ia32_rows.specs.Rows.{rows}
use Rattle.ia32_decode.specs.declared.answer.Decoded.TheVariants as answer
use Rattle.ia32_decode.specs.Decoding.{decoded}
use Rattle.ia32_encode.specs.declared.bytes.ArrayBytes.{ArrayBytes}
use Rattle.ia32_encode.specs.declared.choose.Wide.{Wide}
use Rattle.ia32_encode.specs.Parts.{parts_for, form_fits}
use Rattle.ia32_encode.specs.Text.{laid_out}
use Rattle.ia32_encode.specs.Chosen.{widths_fit}

-- The bytes spell the instruction, with four bytes for what names a symbol.
pub record SpellsWide (wide : Wide) (bytes : List ℕ) (insn : Insn) : Type 0 where
  pub row : Row
  pub listed : Contains rows row
  pub parts : Parts
  pub by_row : SpellsBy row parts bytes insn
  pub disp : IsTrue wide.disp → parts.disp_len ≡ 4
  pub imm : IsTrue wide.imm → imm_len row.form.immediate ≡ 4

-- The row has the instruction, with parts that its form can spell in these widths.
pub record Suits (row : Row) (wide : Wide) (insn : Insn) : Type 0 where
  pub means : insn_of row (parts_for row wide.disp insn) ≡ insn
  pub fits : form_fits row.form (parts_for row wide.disp insn) ≡ true
  pub widths : widths_fit wide (parts_for row wide.disp insn).disp_len (imm_len row.form.immediate) ≡ true

-- The chosen spelling is that of the first row which has one.
pub record IsChosen (wide : Wide) (insn : Insn) (chosen : ArrayBytes) : Type 0 where
  pub row : Row
  pub listed : Contains rows row
  pub suits : Suits row wide insn
  pub first : (k : ℕ) (d : Row) → k < listed.0 → Suits (slice_index_or rows k d) wide insn → ⊥
  pub text : chosen ≡ laid_out row.form (parts_for row wide.disp insn)

-- Whatever follows the bytes, what is decoded is the instruction, of this length.
abbrev pub IsReadBack : List ℕ → Insn → ℕ → Type 0
IsReadBack bytes insn n = (more : List ℕ) → decoded (bytes ++ more) ≡ answer.Insn insn n

abbrev pub NoneSuits : Wide → Insn → Type 0
NoneSuits wide insn = (row : Row) → Contains rows row → Suits row wide insn → ⊥

-- ---- what is known of it

-- from one to eleven bytes; what names a symbol has its four bytes in them, the displacement before the immediate
pub record IsPlaced (wide : Wide) (a : ArrayBytes) : Type 0 where
  pub some : 1 ≤ a.len
  pub most : a.len ≤ 11
  pub disp : IsTrue wide.disp → a.disp_at + 4 ≤ a.len
  pub imm : IsTrue wide.imm → a.imm_at + 4 ≤ a.len
  pub order : IsTrue wide.disp → IsTrue wide.imm → a.disp_at + 4 ≤ a.imm_at

-- ---- the numbers of an instruction

abbrev pub IsOperandBounded : Operand → Type 0
IsOperandBounded (operand.Memory a) = a.disp < 2 ^ 32
IsOperandBounded _ = Unit {0}

-- displacements and the immediate have 32 bits, the selector 16
pub record IsBounded (i : Insn) : Type 0 where
  pub a : IsOperandBounded i.a
  pub b : IsOperandBounded i.b
  pub imm : i.imm < 2 ^ 32
  pub sel : i.sel < 2 ^ 16

abbrev pub chosen_bytes : ArrayBytes → List ℕ
chosen_bytes a = take a.len a.bytes

-- what is known of the chosen spelling of such an instruction
pub record IsGood (wide : Wide) (insn : Insn) (a : ArrayBytes) : Type 0 where
  pub chosen : IsChosen wide insn a
  pub spells : SpellsWide wide (chosen_bytes a) insn
  pub read_back : IsReadBack (chosen_bytes a) insn a.len
  pub placed : IsPlaced wide a
