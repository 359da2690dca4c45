-- Arithmetic and logic: the names, the operands that they take, and the instructions that they mean.
use Rattle.std.specs.Prelude.{codes, [], ◌∷◌, Option, Some, None}
use Rattle.ia32_types.specs.declared.insn.Op.{Op}
use Rattle.ia32_types.specs.declared.insn.Op.TheVariants as op
use Rattle.ia32_types.specs.declared.size.Size.{Size}
use Rattle.ia32_types.specs.declared.size.Size.TheVariants as size
use Rattle.asm_instruction.specs.declared.argument.Given.{Given}
use Rattle.asm_instruction.specs.declared.argument.Given.TheVariants as given
use Rattle.asm_instruction.specs.declared.argument.Operands.{Operands}
use Rattle.asm_instruction.specs.declared.argument.Operands.TheVariants as operands
use Rattle.asm_instruction.specs.declared.arithmetic.Arithmetic.{Arithmetic}
use Rattle.asm_instruction.specs.declared.arithmetic.Arithmetic.TheVariants as arithmetic
use Rattle.asm_instruction.specs.declared.draft.Draft.{Draft}
use Rattle.asm_instruction.specs.declared.draft.Pair.{Pair}
use Rattle.asm_instruction.specs.declared.draft.Pair.TheVariants as pair
use Rattle.asm_instruction.specs.declared.mnemonic.Family.{Family}
use Rattle.asm_instruction.specs.declared.mnemonic.Family.TheVariants as family
use Rattle.asm_instruction.specs.Names.{Table, ◌>>=◌}
use Rattle.asm_instruction.specs.Sizes.{agreed}
use Rattle.asm_instruction.specs.Draft.{register_operand, register_or_memory, said, paired, instruction, unary, with_number}

abbrev pub named_two : Op → Family
named_two o = family.Arithmetic (arithmetic.Two o)

abbrev pub named_one : Op → Family
named_one o = family.Arithmetic (arithmetic.One o)

-- with a suffix b, w or l, or none
unfoldable pub arithmetic_names : Table Family
arithmetic_names =
    (codes "add", named_two op.Add) ∷ (codes "or", named_two op.Or) ∷ (codes "adc", named_two op.Adc) ∷ (codes "sbb", named_two op.Sbb) ∷
    (codes "and", named_two op.And) ∷ (codes "sub", named_two op.Sub) ∷ (codes "xor", named_two op.Xor) ∷ (codes "cmp", named_two op.Cmp) ∷
    (codes "test", family.Arithmetic arithmetic.Test) ∷
    (codes "not", named_one op.Not) ∷ (codes "neg", named_one op.Neg) ∷ (codes "mul", named_one op.Mul) ∷
    (codes "imul", family.Arithmetic arithmetic.Multiply) ∷ (codes "div", named_one op.Div) ∷ (codes "idiv", named_one op.Idiv) ∷
    (codes "inc", named_one op.Inc) ∷ (codes "dec", named_one op.Dec) ∷ []

-- the destination is the first operand
abbrev pub of_pair : Op → Size → Pair → Draft
of_pair o s (pair.Immediate n place) = with_number (unary o s place) s n
of_pair o s (pair.FromRegister n place) = instruction o s place (register_operand n)
of_pair o s (pair.FromMemory place n) = instruction o s (register_operand n) place

-- memory is the first operand, in either order of the source
abbrev pub memory_first : Op → Size → Pair → Draft
memory_first o s (pair.FromMemory place n) = instruction o s place (register_operand n)
memory_first o s p = of_pair o s p

-- what is made of a pair, at the size that its operands say
unfoldable pub of_two : (Size → Pair → Option Draft) → Option Size → Given → Given → Option Draft
of_two make suffix source destination = do
  p ← paired source destination
  s ← agreed suffix (said source) (said destination)
  make s p

-- from a register, memory or a number to a register or memory
abbrev pub two : Op → Option Size → Given → Given → Option Draft
two o suffix source destination = of_two (λ s p. Some (of_pair o s p)) suffix source destination

-- of a register or memory, with a size of its own or none
unfoldable pub of_one : Option Size → Op → Option Size → Given → Option Draft
of_one own o suffix g = do
  place ← register_or_memory g
  s ← agreed suffix (said g) own
  Some (unary o s place)

abbrev pub one : Op → Option Size → Given → Option Draft
one o suffix g = of_one None o suffix g

-- from a register or memory to a register
unfoldable pub to_register : Op → Option Size → Given → Given → Option Draft
to_register o suffix source (given.Register t n) = do
  place ← register_or_memory source
  s ← agreed suffix (said source) (Some t)
  Some (instruction o s (register_operand n) place)
to_register o suffix source _ = None

unfoldable pub arithmetic_draft : Arithmetic → Option Size → Operands → Option Draft
arithmetic_draft (arithmetic.Two o) suffix (operands.Two source destination) = two o suffix source destination
arithmetic_draft arithmetic.Test suffix (operands.Two source destination) =
    of_two (λ s p. Some (memory_first op.Test s p)) suffix source destination
arithmetic_draft (arithmetic.One o) suffix (operands.One g) = one o suffix g
arithmetic_draft arithmetic.Multiply suffix (operands.One g) = one op.Imul suffix g
arithmetic_draft arithmetic.Multiply suffix (operands.Two source destination) = to_register op.Imul suffix source destination
arithmetic_draft arithmetic.Multiply suffix (operands.Three (given.Immediate n) source destination) =
    to_register op.ImulBy suffix source destination >>= λ d. Some (with_number d size.Long n)
arithmetic_draft _ suffix _ = None
