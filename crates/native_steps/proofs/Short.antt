-- The ranges of an instruction have 1 to 32 bytes.
use Rattle.std.proofs.Common.{◌/◌, ◌≤◌, Bool, true, false, cond, Option, Some, None, arith}
use Rattle.std.specs.Option.{option_or}
use Rattle.ia32_types.specs.declared.size.Size.{Size}
use Rattle.ia32_types.specs.declared.size.Size.TheVariants.{Byte, Word, Long}
use Rattle.ia32_types.specs.declared.flags.Regs.{Regs}
use Rattle.ia32_types.specs.declared.insn.Insn.{Insn}
use Rattle.ia32_types.specs.declared.insn.Op.{Op}
use Rattle.ia32_types.specs.declared.insn.Op.TheVariants as op
use Rattle.ia32_types.specs.declared.insn.Operand.{Operand}
use Rattle.ia32_types.specs.declared.insn.Operand.TheVariants as operand
use Rattle.ia32_types.specs.Size.{width}
use Rattle.ia32_exec.specs.declared.access.Range.{Range}
use Rattle.ia32_exec.specs.Ranges.{operand_range}
use Rattle.ia32_exec.specs.Strings.{is_over}
use Rattle.ia32_exec.specs.Effect.{unless_over, ranges_row, ranges_of}
use Rattle.ia32_exec.specs.Short.{IsShort}

short_size : (s : Size) → (1 ≤ width s / 8) × (width s / 8 ≤ 32)
short_size Byte = (omega arith, omega arith)
short_size Word = (omega arith, omega arith)
short_size Long = (omega arith, omega arith)

short_operand : (o : Operand) (s : Size) (r : Regs) → IsShort (operand_range o s r)
short_operand operand.Absent s r = tt
short_operand (operand.Register n) s r = tt
short_operand (operand.Memory a) s r = short_size s
short_operand (operand.Segment g) s r = tt
short_operand (operand.Control n) s r = tt

short_either : (x y : Option Range) → IsShort x → IsShort y → IsShort (option_or x y)
short_either None y h k = k
short_either (Some r) y h k = h

short_choice : (b : Bool) (r : Range) → (1 ≤ r.len) × (r.len ≤ 32) → IsShort (cond b None (Some r))
short_choice true r h = tt
short_choice false r h = h

short_unless : (i : Insn) (r : Regs) (x : Range) → (1 ≤ x.len) × (x.len ≤ 32) → IsShort (unless_over i r (Some x))
short_unless i r x h = short_choice (is_over i r) x h

row_short : (o : Op) (i : Insn) (r : Regs) → IsShort (ranges_row o i r).read × IsShort (ranges_row o i r).write
row_short op.Add i r = (short_operand i.b i.size r, short_operand i.a i.size r)
row_short op.Or i r = (short_operand i.b i.size r, short_operand i.a i.size r)
row_short op.Adc i r = (short_operand i.b i.size r, short_operand i.a i.size r)
row_short op.Sbb i r = (short_operand i.b i.size r, short_operand i.a i.size r)
row_short op.And i r = (short_operand i.b i.size r, short_operand i.a i.size r)
row_short op.Sub i r = (short_operand i.b i.size r, short_operand i.a i.size r)
row_short op.Xor i r = (short_operand i.b i.size r, short_operand i.a i.size r)
row_short op.Not i r = (short_operand i.b i.size r, short_operand i.a i.size r)
row_short op.Neg i r = (short_operand i.b i.size r, short_operand i.a i.size r)
row_short op.Inc i r = (short_operand i.b i.size r, short_operand i.a i.size r)
row_short op.Dec i r = (short_operand i.b i.size r, short_operand i.a i.size r)
row_short op.Mov i r = (short_operand i.b i.size r, short_operand i.a i.size r)
row_short op.Xchg i r = (short_operand i.b i.size r, short_operand i.a i.size r)
row_short op.Cmp i r = (short_either _ _ (short_operand i.a i.size r) (short_operand i.b i.size r), tt)
row_short op.Test i r = (short_either _ _ (short_operand i.a i.size r) (short_operand i.b i.size r), tt)
row_short op.Imul i r = (short_either _ _ (short_operand i.a i.size r) (short_operand i.b i.size r), tt)
row_short op.Rol i r = (tt, short_operand i.a i.size r)
row_short op.Ror i r = (tt, short_operand i.a i.size r)
row_short op.Shl i r = (tt, short_operand i.a i.size r)
row_short op.Shr i r = (tt, short_operand i.a i.size r)
row_short op.Sar i r = (tt, short_operand i.a i.size r)
row_short op.Mul i r = (short_operand i.a i.size r, tt)
row_short op.Div i r = (short_operand i.a i.size r, tt)
row_short op.Idiv i r = (short_operand i.a i.size r, tt)
row_short op.ImulBy i r = (short_operand i.b i.size r, tt)
row_short op.Movzx i r = (short_operand i.b i.size r, tt)
row_short op.Movsx i r = (short_operand i.b i.size r, tt)
row_short op.Push i r = (short_operand i.a Long r, (omega arith, omega arith))
row_short op.Pop i r = ((omega arith, omega arith), short_operand i.a Long _)
row_short op.Pusha i r = (tt, (omega arith, omega arith))
row_short op.Popa i r = ((omega arith, omega arith), tt)
row_short op.Leave i r = ((omega arith, omega arith), tt)
row_short op.Setcc i r = (tt, short_operand i.a Byte r)
row_short op.Call i r = (tt, (omega arith, omega arith))
row_short op.Movs i r = (short_unless i r _ (short_size i.size), short_unless i r _ (short_size i.size))
row_short op.Stos i r = (tt, short_unless i r _ (short_size i.size))
row_short op.Lods i r = (short_unless i r _ (short_size i.size), tt)
row_short op.PushFlags i r = (tt, (omega arith, omega arith))
row_short op.PopFlags i r = ((omega arith, omega arith), tt)
row_short op.ReadSeg i r = (tt, short_operand i.a Word r)
row_short op.PushSeg i r = (tt, (omega arith, omega arith))
row_short op.Return i r = ((omega arith, omega arith), tt)
row_short op.JumpTo i r = (short_operand i.a Long r, tt)
row_short op.CallTo i r = (short_operand i.a Long r, (omega arith, omega arith))
row_short _ i r = (tt, tt)

pub ranges_short : (i : Insn) (r : Regs) → IsShort (ranges_of i r).read × IsShort (ranges_of i r).write
unfolding ranges_of
ranges_short i r = row_short i.op i r
