-- The jump that is written at a site, and where it leads.
use Rattle.std.specs.Prelude.{ℕ, ◌-◌, false}
use Rattle.ia32_types.specs.declared.addresses.TheConstants.{WINDOW_BELOW}
use Rattle.ia32_types.specs.declared.insn.Insn.{Insn}
use Rattle.ia32_types.specs.declared.insn.Op.TheVariants as op
use Rattle.ia32_types.specs.declared.insn.Operand.TheVariants as operand
use Rattle.ia32_types.specs.declared.size.Size.TheVariants as size
use Rattle.image_check.specs.Places.{linear}

-- E9 F4 F4 F4 F4
abbrev pub jump_out : Insn
jump_out = record { op = op.Jmp; size = size.Long; a = operand.Absent; b = operand.Absent; imm = 0xF4F4F4F4; sel = 0; rep = false }

-- the linear address to which it leads from an offset of the text
abbrev pub window_at : ℕ → ℕ
window_at at = linear at - WINDOW_BELOW
