-- Whether two instructions are one, as a test.
use Rattle.std.specs.Prelude.{◌==◌, ◌&&◌, Bool, true, false, Option, Some, None}
use mathlib.Core.Bool.{beq}
use denote.Enum.Bare.{sameb}
use Rattle.ia32_types.specs.contracts.insn.Op.{the_type}
use Rattle.ia32_types.specs.declared.register.Reg.{Reg}
use Rattle.ia32_types.specs.Register.{number_of, segment_number}
use Rattle.ia32_types.specs.declared.insn.Address.{Address}
use Rattle.ia32_types.specs.declared.insn.Op.{Op}
use Rattle.ia32_types.specs.declared.insn.Operand.{Operand}
use Rattle.ia32_types.specs.declared.insn.Operand.TheVariants as operand
use Rattle.ia32_types.specs.declared.insn.Insn.{Insn}
use Rattle.ia32_types.specs.declared.size.Size.{Size}
use Rattle.ia32_types.specs.Size.{width}

abbrev pub same_op : Op → Op → Bool
same_op = sameb the_type

abbrev pub same_size : Size → Size → Bool
same_size s t = width s == width t

abbrev pub same_register : Option Reg → Option Reg → Bool
same_register None None = true
same_register (Some r) (Some s) = number_of r == number_of s
same_register _ _ = false

abbrev pub same_address : Address → Address → Bool
same_address x y = same_register x.base y.base && same_register x.index y.index && x.scale == y.scale && x.disp == y.disp

abbrev pub same_operand : Operand → Operand → Bool
same_operand operand.Absent operand.Absent = true
same_operand (operand.Register m) (operand.Register n) = m == n
same_operand (operand.Memory x) (operand.Memory y) = same_address x y
same_operand (operand.Segment s) (operand.Segment t) = segment_number s == segment_number t
same_operand (operand.Control m) (operand.Control n) = m == n
same_operand _ _ = false

-- each field is the same
unfoldable pub same_insn : Insn → Insn → Bool
same_insn i j =
    same_op i.op j.op && same_size i.size j.size && same_operand i.a j.a && same_operand i.b j.b && i.imm == j.imm && i.sel == j.sel
    && beq i.rep j.rep
