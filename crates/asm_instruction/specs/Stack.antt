-- The stack.
use Rattle.std.specs.Prelude.{codes, [], ◌∷◌, Option, Some, None}
use Rattle.ia32_types.specs.declared.register.Seg.{Seg}
use Rattle.ia32_types.specs.declared.insn.Op.{Op}
use Rattle.ia32_types.specs.declared.insn.Op.TheVariants as op
use Rattle.ia32_types.specs.declared.insn.Operand.TheVariants as operand
use Rattle.ia32_types.specs.declared.size.Size.{Size}
use Rattle.ia32_types.specs.declared.size.Size.TheVariants as size
use Rattle.asm_instruction.specs.declared.argument.Given.{Given}
use Rattle.asm_instruction.specs.declared.argument.Given.TheVariants as given
use Rattle.asm_instruction.specs.declared.argument.Operands.{Operands}
use Rattle.asm_instruction.specs.declared.argument.Operands.TheVariants as operands
use Rattle.asm_instruction.specs.declared.stack.Stack.{Stack}
use Rattle.asm_instruction.specs.declared.stack.Stack.TheVariants as kind
use Rattle.asm_instruction.specs.declared.draft.Draft.{Draft}
use Rattle.asm_instruction.specs.declared.mnemonic.Family.{Family}
use Rattle.asm_instruction.specs.declared.mnemonic.Family.TheVariants as family
use Rattle.asm_instruction.specs.Names.{Table, ◌>>=◌}
use Rattle.asm_instruction.specs.Sizes.{agreed}
use Rattle.asm_instruction.specs.Draft.{of_operand, unary, alone, with_number}
use Rattle.asm_instruction.specs.Arithmetic.{of_one}

-- with a suffix, or none
unfoldable pub stack_names : Table Family
stack_names = (codes "push", family.Stack kind.Push) ∷ (codes "pop", family.Stack kind.Pop) ∷ (codes "leave", family.Plain op.Leave) ∷ []

-- without operands
unfoldable pub frame_names : Table Family
frame_names =
    (codes "pusha", family.Plain op.Pusha) ∷ (codes "pushal", family.Plain op.Pusha) ∷
    (codes "popa", family.Plain op.Popa) ∷ (codes "popal", family.Plain op.Popa) ∷
    (codes "pushf", family.Plain op.PushFlags) ∷ (codes "pushfl", family.Plain op.PushFlags) ∷
    (codes "popf", family.Plain op.PopFlags) ∷ (codes "popfl", family.Plain op.PopFlags) ∷ []

-- the stack holds 32 bits an operand
unfoldable pub of_segment : Op → Option Size → Seg → Option Draft
of_segment o suffix segment = agreed suffix None (Some size.Long) >>= λ s. Some (unary o s (of_operand (operand.Segment segment)))

unfoldable pub pushed : Option Size → Given → Option Draft
pushed suffix (given.Immediate n) =
    agreed suffix (Some size.Long) None >>= λ s. Some (with_number (alone op.Push) s n)
pushed suffix (given.Segment segment) = of_segment op.PushSeg suffix segment
pushed suffix g = of_one (Some size.Long) op.Push suffix g

unfoldable pub popped : Option Size → Given → Option Draft
popped suffix (given.Segment segment) = of_segment op.PopSeg suffix segment
popped suffix g = of_one (Some size.Long) op.Pop suffix g

unfoldable pub stack_draft : Stack → Option Size → Operands → Option Draft
stack_draft kind.Push suffix (operands.One g) = pushed suffix g
stack_draft kind.Pop suffix (operands.One g) = popped suffix g
stack_draft _ suffix _ = None
