-- Moves between registers and memory.
use Rattle.std.specs.Prelude.{codes, ℕ, [], ◌∷◌, Option, Some, None, min, max}
use Rattle.ia32_types.specs.declared.insn.Op.{Op}
use Rattle.ia32_types.specs.declared.insn.Op.TheVariants as op
use Rattle.ia32_types.specs.declared.insn.Operand.{Operand}
use Rattle.ia32_types.specs.declared.insn.Operand.TheVariants as operand
use Rattle.ia32_types.specs.declared.size.Size.{Size}
use Rattle.ia32_types.specs.declared.size.Size.TheVariants as size
use Rattle.asm_instruction.specs.declared.argument.Given.{Given}
use Rattle.asm_instruction.specs.declared.argument.Given.TheVariants as given
use Rattle.asm_instruction.specs.declared.argument.Operands.{Operands}
use Rattle.asm_instruction.specs.declared.argument.Operands.TheVariants as operands
use Rattle.asm_instruction.specs.declared.moves.Moves.{Moves}
use Rattle.asm_instruction.specs.declared.moves.Moves.TheVariants as kind
use Rattle.asm_instruction.specs.declared.draft.Draft.{Draft}
use Rattle.asm_instruction.specs.declared.draft.NumberedOperand.{NumberedOperand}
use Rattle.asm_instruction.specs.declared.draft.Pair.{Pair}
use Rattle.asm_instruction.specs.declared.draft.Pair.TheVariants as pair
use Rattle.asm_instruction.specs.declared.mnemonic.Family.{Family}
use Rattle.asm_instruction.specs.declared.mnemonic.Family.TheVariants as family
use Rattle.asm_instruction.specs.Names.{Table, ◌>>=◌}
use Rattle.asm_instruction.specs.Sizes.{agreed}
use Rattle.asm_instruction.specs.Draft.{of_operand, register_operand, register_or_memory, said, instruction}
use Rattle.asm_instruction.specs.Arithmetic.{of_two, two, to_register}

-- with a suffix, or none
unfoldable pub move_names : Table Family
move_names = (codes "mov", family.Moves kind.Move) ∷ (codes "lea", family.Moves kind.Lea) ∷ (codes "xchg", family.Moves kind.Exchange) ∷ []

-- from the first size to 32 bits
unfoldable pub extend_names : Table Family
extend_names =
    (codes "movzbl", family.Moves (kind.Extend op.Movzx size.Byte)) ∷ (codes "movzwl", family.Moves (kind.Extend op.Movzx size.Word)) ∷
    (codes "movsbl", family.Moves (kind.Extend op.Movsx size.Byte)) ∷ (codes "movswl", family.Moves (kind.Extend op.Movsx size.Word)) ∷ []

-- ---- MOV

-- with a segment or control register the other operand has 32 bits
unfoldable pub special : Op → Option Size → Given → NumberedOperand → NumberedOperand → Option Draft
special o suffix g a b = agreed suffix (said g) (Some size.Long) >>= λ s. Some (instruction o s a b)

unfoldable pub from_special : Op → Option Size → Operand → Given → Option Draft
from_special o suffix register g = register_or_memory g >>= λ to. special o suffix g to (of_operand register)

unfoldable pub to_special : Op → Option Size → Given → Operand → Option Draft
to_special o suffix g register = register_or_memory g >>= λ from. special o suffix g (of_operand register) from

unfoldable pub moved : Option Size → Given → Given → Option Draft
moved suffix (given.Segment segment) to = from_special op.ReadSeg suffix (operand.Segment segment) to
moved suffix (given.Control control) to = from_special op.ReadControl suffix (operand.Control control) to
moved suffix from (given.Segment segment) = to_special op.LoadSeg suffix from (operand.Segment segment)
moved suffix from (given.Control control) = to_special op.WriteControl suffix from (operand.Control control)
moved suffix from to = two op.Mov suffix from to

-- ---- MOVZX and MOVSX, whose size is that of the source

unfoldable pub extended : Op → Size → Given → Given → Option Draft
extended o own source (given.Register size.Long n) = do
  from ← register_or_memory source
  s ← agreed (Some own) (said source) None
  Some (instruction o s (register_operand n) from)
extended o own source _ = None

-- ---- LEA

unfoldable pub effective : Option Size → Given → Given → Option Draft
effective suffix (given.Memory m) destination = to_register op.Lea suffix (given.Memory m) destination
effective suffix _ destination = None

-- ---- XCHG: of two registers the one of the lower number stands first, else memory

abbrev pub with_register : Size → ℕ → NumberedOperand → Operand → Draft
with_register s n other (operand.Register m) = instruction op.Xchg s (register_operand (min n m)) (register_operand (max n m))
with_register s n other _ = instruction op.Xchg s other (register_operand n)

abbrev pub exchange : Size → Pair → Option Draft
exchange s (pair.Immediate n place) = None
exchange s (pair.FromRegister n place) = Some (with_register s n place place.operand)
exchange s (pair.FromMemory place n) = Some (instruction op.Xchg s place (register_operand n))

-- ----

unfoldable pub move_draft : Moves → Option Size → Operands → Option Draft
move_draft kind.Move suffix (operands.Two source destination) = moved suffix source destination
move_draft (kind.Extend o s) suffix (operands.Two source destination) = extended o s source destination
move_draft kind.Lea suffix (operands.Two source destination) = effective suffix source destination
move_draft kind.Exchange suffix (operands.Two source destination) = of_two exchange suffix source destination
move_draft _ suffix _ = None
