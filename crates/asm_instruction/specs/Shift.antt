-- Shifts and rotations.
use Rattle.std.specs.Prelude.{codes, ◌==◌, [], ◌∷◌, Option, Some, None, if◌then◌else◌}
use Rattle.ia32_types.specs.declared.insn.Op.{Op}
use Rattle.ia32_types.specs.declared.insn.Op.TheVariants as op
use Rattle.ia32_types.specs.declared.size.Size.{Size}
use Rattle.ia32_types.specs.declared.size.Size.TheVariants as size
use Rattle.asm_instruction.specs.declared.argument.Given.{Given}
use Rattle.asm_instruction.specs.declared.argument.Given.TheVariants as given
use Rattle.asm_instruction.specs.declared.argument.Operands.{Operands}
use Rattle.asm_instruction.specs.declared.argument.Operands.TheVariants as operands
use Rattle.asm_instruction.specs.declared.draft.Draft.{Draft}
use Rattle.asm_instruction.specs.declared.mnemonic.Family.{Family}
use Rattle.asm_instruction.specs.declared.mnemonic.Family.TheVariants as family
use Rattle.asm_instruction.specs.Names.{Table, ◌>>=◌}
use Rattle.asm_instruction.specs.Sizes.{agreed}
use Rattle.asm_instruction.specs.Draft.{register_operand, register_or_memory, said, instruction, with_number}
use Rattle.asm_instruction.specs.Arithmetic.{one}

-- with a suffix, or none; SAL is another name of SHL (SDM volume 2)
unfoldable pub shift_names : Table Family
shift_names =
    (codes "rol", family.Shift op.Rol) ∷ (codes "ror", family.Shift op.Ror) ∷ (codes "shl", family.Shift op.Shl) ∷
    (codes "sal", family.Shift op.Shl) ∷ (codes "shr", family.Shift op.Shr) ∷ (codes "sar", family.Shift op.Sar) ∷ []

-- by CL, which says nothing of the size
unfoldable pub by_register : Op → Option Size → Given → Option Draft
by_register o suffix g = do
  place ← register_or_memory g
  s ← agreed suffix (said g) None
  Some (instruction o s place (register_operand 1))

-- without a count it is 1, and a count is a byte
unfoldable pub shift_draft : Op → Option Size → Operands → Option Draft
shift_draft o suffix (operands.One g) = one o suffix g >>= λ d. Some (record d { insn = record d.insn { imm = 1 } })
shift_draft o suffix (operands.Two (given.Immediate count) g) = one o suffix g >>= λ d. Some (with_number d size.Byte count)
shift_draft o suffix (operands.Two (given.Register size.Byte n) g) = if n == 1 then by_register o suffix g else None
shift_draft o suffix _ = None
