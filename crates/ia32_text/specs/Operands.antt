-- The operands of an instruction as they are written, in AT&T order.
use Rattle.std.specs.Prelude.{ℕ, ◌+◌, ◌%◌, ◌^◌, ◌==◌, if◌then◌else◌}
use Rattle.ia32_types.specs.declared.insn.Insn.{Insn}
use Rattle.ia32_types.specs.declared.insn.Operand.{Operand}
use Rattle.ia32_types.specs.declared.insn.Operand.TheVariants as operand
use Rattle.ia32_types.specs.declared.size.Size.{Size}
use Rattle.ia32_types.specs.declared.size.Size.TheVariants as size
use Rattle.ia32_text.specs.declared.kinds.Layout.{Layout}
use Rattle.ia32_text.specs.declared.kinds.Layout.TheVariants as layout
use Rattle.ia32_text.specs.declared.operands.Written.{Written}
use Rattle.ia32_text.specs.declared.operands.Written.TheVariants as written
use Rattle.ia32_text.specs.declared.operands.Operands.{Operands}
use Rattle.ia32_text.specs.declared.operands.Operands.TheVariants as operands
use Rattle.ia32_text.specs.Kinds.{layout_of}

-- in place of an operand that is absent the immediate stands
abbrev pub as_written : Size → ℕ → Operand → Written
as_written s imm operand.Absent = written.Immediate imm
as_written s imm (operand.Register n) = written.Register s n
as_written s imm (operand.Memory a) = written.Memory a
as_written s imm (operand.Segment g) = written.Segment g
as_written s imm (operand.Control n) = written.Control n

abbrev pub destination : Insn → Written
destination i = as_written i.size i.imm i.a

abbrev pub source : Insn → Written
source i = as_written i.size i.imm i.b

-- a number, or CL
abbrev pub count : Insn → Written
count i = as_written size.Byte i.imm i.b

abbrev pub port_or : Operand → ℕ → Written
port_or operand.Absent imm = written.Immediate imm
port_or _ imm = written.Port

abbrev pub port : Insn → Written
port i = port_or i.b i.imm

-- AL or EAX
abbrev pub accumulator : Insn → Written
accumulator i = written.Register i.size 0

abbrev pub product_by : Operand → Insn → Operands
product_by operand.Absent i = operands.One (destination i)
product_by _ i = operands.Two (source i) (destination i)

abbrev pub product : Insn → Operands
product i = product_by i.b i

abbrev pub returned : Insn → Operands
returned i = if i.imm == 0 then operands.Nothing else operands.One (written.Immediate i.imm)

-- where a direct branch at an address leads: after the instruction, by its distance
abbrev pub target : ℕ → ℕ → ℕ → ℕ
target distance at len = (at + len + distance) % 2 ^ 32

abbrev pub laid_out : Layout → Insn → ℕ → ℕ → Operands
laid_out layout.Nothing i at len = operands.Nothing
laid_out layout.One i at len = operands.One (destination i)
laid_out layout.Two i at len = operands.Two (source i) (destination i)
laid_out layout.Product i at len = product i
laid_out layout.ProductBy i at len = operands.Three (written.Immediate i.imm) (source i) (destination i)
laid_out layout.Widened i at len = operands.Two (source i) (as_written size.Long i.imm i.a)
laid_out layout.Shift i at len = operands.Two (count i) (destination i)
laid_out layout.Task i at len = operands.One (as_written size.Word i.imm i.a)
laid_out layout.In i at len = operands.Two (port i) (accumulator i)
laid_out layout.Out i at len = operands.Two (accumulator i) (port i)
laid_out layout.Return i at len = returned i
laid_out layout.Starred i at len = operands.Starred (destination i)
laid_out layout.Far i at len = operands.Two (written.Immediate i.sel) (written.Immediate i.imm)
laid_out layout.Label i at len = operands.One (written.Label (target i.imm at len))

-- the operands of the instruction at an address, with its length
unfoldable pub operands_of : Insn → ℕ → ℕ → Operands
operands_of i at len = laid_out (layout_of i.op) i at len
