-- What accesses its operands alone, none of which is in memory, accesses nothing.
use Rattle.std.proofs.Common.{◌≡◌, true, false, None, refl, arith}
use Rattle.ia32_types.specs.declared.flags.Regs.{Regs}
use Rattle.ia32_types.specs.declared.size.Size.{Size}
use Rattle.ia32_types.specs.declared.size.Size.TheVariants.{Byte}
use Rattle.ia32_types.specs.declared.insn.Insn.{Insn}
use Rattle.ia32_types.specs.declared.insn.Op.{Op}
use Rattle.ia32_types.specs.declared.insn.Op.TheVariants.{Add, Or, Adc, Sbb, And, Sub, Xor, Not, Neg, Inc, Dec, Mov, Xchg, Cmp, Test, Imul, Rol, Ror, Shl, Shr, Sar, Mul, Div, Idiv, ImulBy, Movzx, Movsx, Setcc, Jcc, Jmp}
use Rattle.ia32_types.specs.declared.insn.Operand.{Operand}
use Rattle.ia32_types.specs.declared.insn.Operand.TheVariants.{Memory, Absent, Register, Segment, Control}
use Rattle.ia32_exec.specs.declared.access.Ranges.{Ranges}
use Rattle.ia32_exec.specs.Ranges.{operand_range}
use Rattle.ia32_exec.specs.Effect.{ranges_row, ranges_of}
use Rattle.host_cpl3.specs.Nothing.{AccessesNothing, is_memory, is_by_operands}

abbrev nothing : Ranges
nothing = record { read = None; write = None }

no_range : (x : Operand) (size : Size) (r : Regs) → is_memory x ≡ false → operand_range x size r ≡ None
no_range (Memory a) size r h = absurd cc
no_range Absent size r h = refl
no_range (Register n) size r h = refl
no_range (Segment s) size r h = refl
no_range (Control n) size r h = refl

by_row : (o : Op) (i : Insn) (r : Regs) → is_by_operands o ≡ true → is_memory i.a ≡ false → is_memory i.b ≡ false
    → ranges_row o i r ≡ nothing
by_row Add i r t a b = rw (no_range i.a i.size r a, no_range i.b i.size r b) refl
by_row Or i r t a b = rw (no_range i.a i.size r a, no_range i.b i.size r b) refl
by_row Adc i r t a b = rw (no_range i.a i.size r a, no_range i.b i.size r b) refl
by_row Sbb i r t a b = rw (no_range i.a i.size r a, no_range i.b i.size r b) refl
by_row And i r t a b = rw (no_range i.a i.size r a, no_range i.b i.size r b) refl
by_row Sub i r t a b = rw (no_range i.a i.size r a, no_range i.b i.size r b) refl
by_row Xor i r t a b = rw (no_range i.a i.size r a, no_range i.b i.size r b) refl
by_row Not i r t a b = rw (no_range i.a i.size r a, no_range i.b i.size r b) refl
by_row Neg i r t a b = rw (no_range i.a i.size r a, no_range i.b i.size r b) refl
by_row Inc i r t a b = rw (no_range i.a i.size r a, no_range i.b i.size r b) refl
by_row Dec i r t a b = rw (no_range i.a i.size r a, no_range i.b i.size r b) refl
by_row Mov i r t a b = rw (no_range i.a i.size r a, no_range i.b i.size r b) refl
by_row Xchg i r t a b = rw (no_range i.a i.size r a, no_range i.b i.size r b) refl
by_row Cmp i r t a b = rw (no_range i.a i.size r a, no_range i.b i.size r b) refl
by_row Test i r t a b = rw (no_range i.a i.size r a, no_range i.b i.size r b) refl
by_row Imul i r t a b = rw (no_range i.a i.size r a, no_range i.b i.size r b) refl
by_row Rol i r t a b = rw (no_range i.a i.size r a) refl
by_row Ror i r t a b = rw (no_range i.a i.size r a) refl
by_row Shl i r t a b = rw (no_range i.a i.size r a) refl
by_row Shr i r t a b = rw (no_range i.a i.size r a) refl
by_row Sar i r t a b = rw (no_range i.a i.size r a) refl
by_row Mul i r t a b = rw (no_range i.a i.size r a) refl
by_row Div i r t a b = rw (no_range i.a i.size r a) refl
by_row Idiv i r t a b = rw (no_range i.a i.size r a) refl
by_row ImulBy i r t a b = rw (no_range i.b i.size r b) refl
by_row Movzx i r t a b = rw (no_range i.b i.size r b) refl
by_row Movsx i r t a b = rw (no_range i.b i.size r b) refl
by_row Setcc i r t a b = rw (no_range i.a Byte r a) refl
by_row Jcc i r t a b = refl
by_row Jmp i r t a b = refl
by_row _ i r t a b = absurd cc

pub accesses_none : (i : Insn) → is_by_operands i.op ≡ true → is_memory i.a ≡ false → is_memory i.b ≡ false → AccessesNothing i
unfolding ranges_of
accesses_none i t a b = λ r. by_row i.op i r t a b
