-- The displacement and the immediate of a spelling where they have four bytes (SDM volume 2, section 2.1), and the
-- spelling with another number in their place.
use Rattle.std.specs.Prelude.{ℕ, ◌+◌, ◌-◌, List, length}
use Rattle.ia32_types.specs.declared.insn.Insn.{Insn}
use Rattle.ia32_types.specs.declared.insn.Operand.{Operand}
use Rattle.ia32_types.specs.declared.insn.Operand.TheVariants.{Memory}
use Rattle.ia32_rows.specs.declared.row.Row.{Row}
use Rattle.ia32_rows.specs.declared.row.Parts.{Parts}
use Rattle.ia32_rows.specs.declared.row.Immediate.{Immediate}
use Rattle.ia32_rows.specs.declared.row.Immediate.TheVariants as immediate
use Rattle.ia32_rows.specs.Fields.{imm_len}

-- how many bytes the immediate takes, with the selector of a far jump
abbrev pub imm_size : Immediate → ℕ
imm_size immediate.Far = imm_len immediate.Far + 2
imm_size i = imm_len i

-- The immediate comes last, and the displacement before it.
abbrev pub imm_place : Row → List ℕ → ℕ
imm_place row bytes = length bytes - imm_size row.form.immediate

abbrev pub disp_place : Row → List ℕ → ℕ
disp_place row bytes = length bytes - imm_size row.form.immediate - 4

-- an operand with another displacement
abbrev pub moved : ℕ → Operand → Operand
moved n (Memory m) = Memory (record m { disp = n })
moved n x = x

abbrev pub with_disp : ℕ → Parts → Parts
with_disp n p = record p { rm = moved n p.rm }

abbrev pub with_imm : ℕ → Parts → Parts
with_imm n p = record p { imm = n }

abbrev pub insn_disp : ℕ → Insn → Insn
insn_disp n insn = record insn { a = moved n insn.a; b = moved n insn.b }

abbrev pub insn_imm : ℕ → Insn → Insn
insn_imm n insn = record insn { imm = n }
