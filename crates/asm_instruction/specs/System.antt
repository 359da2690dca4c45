-- System instructions and ports.
use Rattle.std.specs.Prelude.{codes, ◌==◌, [], ◌∷◌, Option, Some, None, if◌then◌else◌}
use Rattle.ia32_types.specs.declared.insn.Op.{Op}
use Rattle.ia32_types.specs.declared.insn.Op.TheVariants as op
use Rattle.ia32_types.specs.declared.size.Size.{Size}
use Rattle.ia32_types.specs.declared.size.Size.TheVariants as size
use Rattle.asm_instruction.specs.declared.argument.Given.{Given}
use Rattle.asm_instruction.specs.declared.argument.Given.TheVariants as given
use Rattle.asm_instruction.specs.declared.argument.Operands.{Operands}
use Rattle.asm_instruction.specs.declared.argument.Operands.TheVariants as operands
use Rattle.asm_instruction.specs.declared.system.System.{System}
use Rattle.asm_instruction.specs.declared.system.System.TheVariants as kind
use Rattle.asm_instruction.specs.declared.draft.Draft.{Draft}
use Rattle.asm_instruction.specs.declared.mnemonic.Family.{Family}
use Rattle.asm_instruction.specs.declared.mnemonic.Family.TheVariants as family
use Rattle.asm_instruction.specs.Names.{Table, ◌>>=◌}
use Rattle.asm_instruction.specs.Sizes.{agreed}
use Rattle.asm_instruction.specs.Draft.{nothing, register_operand, memory, register_or_memory, said, instruction, unary, with_number}

-- with a suffix, or none
unfoldable pub system_names : Table Family
system_names =
    (codes "in", family.System kind.In) ∷ (codes "out", family.System kind.Out) ∷
    (codes "lgdt", family.System (kind.Memory op.LoadGdt)) ∷ (codes "lidt", family.System (kind.Memory op.LoadIdt)) ∷
    (codes "ltr", family.System kind.LoadTask) ∷ []

-- as it is
unfoldable pub page_names : Table Family
page_names = (codes "invlpg", family.System (kind.Memory op.DropPage)) ∷ []

-- the port is in DX, or a byte
unfoldable pub through : Op → Size → Given → Option Draft
through o s (given.Immediate n) = Some (with_number (instruction o s nothing nothing) size.Byte n)
through o s given.Port = Some (instruction o s nothing (register_operand 2))
through o s (given.Register size.Word n) = if n == 2 then Some (instruction o s nothing (register_operand 2)) else None
through o s _ = None

-- between AL or EAX and the port
unfoldable pub ported : Op → Option Size → Given → Given → Option Draft
ported o suffix p (given.Register t n) = if n == 0 then (agreed suffix (Some t) None >>= λ s. through o s p) else None
ported o suffix p _ = None

-- LTR: the selector has 16 bits
unfoldable pub task : Option Size → Given → Option Draft
task suffix g = do
  place ← register_or_memory g
  s ← agreed suffix (said g) (Some size.Word)
  Some (unary op.LoadTask size.Long place)

unfoldable pub system_draft : System → Option Size → Operands → Option Draft
system_draft kind.In suffix (operands.Two p to) = ported op.PortIn suffix p to
system_draft kind.Out suffix (operands.Two from p) = ported op.PortOut suffix p from
system_draft (kind.Memory o) suffix (operands.One (given.Memory m)) =
    agreed suffix (Some size.Long) None >>= λ s. Some (unary o s (memory m))
system_draft kind.LoadTask suffix (operands.One g) = task suffix g
system_draft _ suffix _ = None
