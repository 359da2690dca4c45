-- The numbers of a draft fit exactly where those of its operands do: arithmetic, shifts, moves and the stack.
use Rattle.std.proofs.Common.{◌≡◌, ◌++◌, [], ◌∷◌, Option, Some, None, refl, ap, ◌∙◌}
use Rattle.std.specs.Prelude.{◌==◌}
use Rattle.std.specs.Option.{option_or}
use Rattle.ia32_types.specs.declared.register.Seg.{Seg}
use Rattle.ia32_types.specs.declared.insn.Op.{Op}
use Rattle.ia32_types.specs.declared.insn.Op.TheVariants as op
use Rattle.ia32_types.specs.declared.insn.Operand.{Operand}
use Rattle.ia32_types.specs.declared.insn.Operand.TheVariants as operand
use Rattle.ia32_types.specs.declared.size.Size.{Size}
use Rattle.ia32_types.specs.declared.size.Size.TheVariants as size
use Rattle.asm_instruction.specs.declared.argument.Number.{Number}
use Rattle.asm_instruction.specs.declared.argument.Given.{Given}
use Rattle.asm_instruction.specs.declared.argument.Given.TheVariants as given
use Rattle.asm_instruction.specs.declared.argument.Operands.{Operands}
use Rattle.asm_instruction.specs.declared.argument.Operands.TheVariants as operands
use Rattle.asm_instruction.specs.declared.arithmetic.Arithmetic.{Arithmetic}
use Rattle.asm_instruction.specs.declared.arithmetic.Arithmetic.TheVariants as arithmetic
use Rattle.asm_instruction.specs.declared.moves.Moves.{Moves}
use Rattle.asm_instruction.specs.declared.moves.Moves.TheVariants as moves
use Rattle.asm_instruction.specs.declared.stack.Stack.{Stack}
use Rattle.asm_instruction.specs.declared.stack.Stack.TheVariants as stack
use Rattle.asm_instruction.specs.declared.draft.NumberedOperand.{NumberedOperand}
use Rattle.asm_instruction.specs.declared.mnemonic.Family.TheVariants as family
use Rattle.asm_instruction.specs.Names.{◌>>=◌}
use Rattle.asm_instruction.specs.Field.{fits_field}
use Rattle.asm_instruction.specs.Sizes.{agreed}
use Rattle.asm_instruction.specs.Draft.{of_operand, register_operand, register_or_memory, said, paired, displaced, fits_displacement, instruction, with_number, alone}
use Rattle.asm_instruction.specs.Arithmetic.{memory_first, of_two, two, of_one, one, to_register, arithmetic_draft}
use Rattle.asm_instruction.specs.Shift.{by_register, shift_draft}
use Rattle.asm_instruction.specs.Moves.{special, from_special, to_special, moved, extended, effective, exchange, move_draft}
use Rattle.asm_instruction.specs.Stack.{of_segment, pushed, popped, stack_draft}
use Rattle.asm_instruction.specs.Refusals.{field_of, first_field_of, numbers_in, numbers}
use Rattle.asm_instruction.proofs.Goods.{When, bind_from, bind_any, choice}
use Rattle.asm_instruction.proofs.Fitting.{Numbers, all_fit, and_true, none_more, FitTo, instruction_fit, numbered_fit, PlaceFit, rom_fit, first_fit, One, unary_fit, Two, Same, Long, Byte, PairFit, paired_fit, of_pair_fit, memory_first_fit, Fit}

-- ---- arithmetic

two_fit : (o : Op) (f : Option Size) (s d : Given) → When (FitTo (Two Same Same s d)) (two o f s d)
unfolding of_two
two_fit o f s d = bind_from (PairFit s d) (FitTo (Two Same Same s d)) (paired s d) _ (paired_fit s d)
    (λ x h. bind_any (FitTo (Two Same Same s d)) (agreed f (said s) (said d)) _ (λ z. of_pair_fit s d o z x h))

tested_fit : (f : Option Size) (s d : Given) → When (FitTo (Two Same Same s d)) (of_two (λ z p. Some (memory_first op.Test z p)) f s d)
unfolding of_two
tested_fit f s d = bind_from (PairFit s d) (FitTo (Two Same Same s d)) (paired s d) _ (paired_fit s d)
    (λ x h. bind_any (FitTo (Two Same Same s d)) (agreed f (said s) (said d)) _ (λ z. memory_first_fit s d op.Test z x h))

pub of_one_fit : (F : Size → Size) (own : Option Size) (o : Op) (f : Option Size) (g : Given) → When (FitTo (One F g)) (of_one own o f g)
unfolding of_one
of_one_fit F own o f g = bind_from (PlaceFit g) (FitTo (One F g)) (register_or_memory g) _ (rom_fit g)
    (λ x h. bind_any (FitTo (One F g)) (agreed f (said g) own) _ (λ z. unary_fit F g o z x h))

pub one_fit : (F : Size → Size) (o : Op) (f : Option Size) (g : Given) → When (FitTo (One F g)) (one o f g)
one_fit F o f g = of_one_fit F None o f g

to_register_fit : (F G : Size → Size) (o : Op) (f : Option Size) (s d : Given) → When (FitTo (Two F G s d)) (to_register o f s d)
unfolding to_register
to_register_fit F G o f s (given.Register t n) =
    bind_from (PlaceFit s) (FitTo (Two F G s (given.Register t n))) (register_or_memory s) _ (rom_fit s)
    (λ x h. bind_any (FitTo (Two F G s (given.Register t n))) (agreed f (said s) (Some t)) _
    (λ z. instruction_fit (Two F G s (given.Register t n)) o z (register_operand n) x (h (G z))))
to_register_fit F G o f s _ = tt

multiplied_fit : (n : Number) (f : Option Size) (s d : Given) → When (FitTo (λ z. Two Long Long s d z ++ (size.Long, n.value) ∷ []))
    (to_register op.ImulBy f s d >>= λ x. Some (with_number x size.Long n))
multiplied_fit n f s d = bind_from (FitTo (Two Long Long s d)) (FitTo (λ z. Two Long Long s d z ++ (size.Long, n.value) ∷ []))
    (to_register op.ImulBy f s d) _ (to_register_fit Long Long op.ImulBy f s d) (λ x h. numbered_fit (Two Long Long s d) x size.Long n h)

product_fit : (f : Option Size) (os : Operands) → Fit (family.Arithmetic arithmetic.Multiply) os (arithmetic_draft arithmetic.Multiply f os)
unfolding arithmetic_draft numbers field_of first_field_of
product_fit f operands.Nothing = tt
product_fit f (operands.One g) = one_fit Long op.Imul f g
product_fit f (operands.Starred g) = tt
product_fit f (operands.Two s d) = to_register_fit Long Long op.Imul f s d
product_fit f (operands.Three (given.Immediate n) s d) = multiplied_fit n f s d
product_fit f (operands.Three (given.Register z n) s d) = tt
product_fit f (operands.Three (given.Segment z) s d) = tt
product_fit f (operands.Three (given.Control n) s d) = tt
product_fit f (operands.Three (given.Memory m) s d) = tt
product_fit f (operands.Three given.Port s d) = tt

pub arithmetic_fit : (k : Arithmetic) (f : Option Size) (os : Operands) → Fit (family.Arithmetic k) os (arithmetic_draft k f os)
unfolding arithmetic_draft numbers field_of first_field_of
arithmetic_fit (arithmetic.Two o) f operands.Nothing = tt
arithmetic_fit (arithmetic.Two o) f (operands.One g) = tt
arithmetic_fit (arithmetic.Two o) f (operands.Starred g) = tt
arithmetic_fit (arithmetic.Two o) f (operands.Two s d) = two_fit o f s d
arithmetic_fit (arithmetic.Two o) f (operands.Three s d g) = tt
arithmetic_fit arithmetic.Test f operands.Nothing = tt
arithmetic_fit arithmetic.Test f (operands.One g) = tt
arithmetic_fit arithmetic.Test f (operands.Starred g) = tt
arithmetic_fit arithmetic.Test f (operands.Two s d) = tested_fit f s d
arithmetic_fit arithmetic.Test f (operands.Three s d g) = tt
arithmetic_fit (arithmetic.One o) f operands.Nothing = tt
arithmetic_fit (arithmetic.One o) f (operands.One g) = one_fit Same o f g
arithmetic_fit (arithmetic.One o) f (operands.Starred g) = tt
arithmetic_fit (arithmetic.One o) f (operands.Two s d) = tt
arithmetic_fit (arithmetic.One o) f (operands.Three s d g) = tt
arithmetic_fit arithmetic.Multiply f os = product_fit f os

-- ---- shifts

by_one_fit : (o : Op) (f : Option Size) (g : Given)
    → When (FitTo (One Byte g)) (one o f g >>= λ x. Some (record x { insn = record x.insn { imm = 1 } }))
by_one_fit o f g = bind_from (FitTo (One Byte g)) (FitTo (One Byte g)) (one o f g) _ (one_fit Byte o f g) (λ x h. h)

by_number_fit : (o : Op) (f : Option Size) (n : Number) (g : Given) → When (FitTo (λ z. One Byte g z ++ (size.Byte, n.value) ∷ []))
    (one o f g >>= λ x. Some (with_number x size.Byte n))
by_number_fit o f n g = bind_from (FitTo (One Byte g)) (FitTo (λ z. One Byte g z ++ (size.Byte, n.value) ∷ [])) (one o f g) _
    (one_fit Byte o f g) (λ x h. numbered_fit (One Byte g) x size.Byte n h)

by_register_fit : (o : Op) (f : Option Size) (g : Given) → When (FitTo (λ z. One Byte g z ++ [])) (by_register o f g)
unfolding by_register
by_register_fit o f g =
    bind_from (PlaceFit g) (FitTo (λ z. One Byte g z ++ [])) (register_or_memory g) _ (rom_fit g)
    (λ x h. bind_any (FitTo (λ z. One Byte g z ++ [])) (agreed f (said g) None) _
    (λ z. instruction_fit (λ z. One Byte g z ++ []) o z x (register_operand 1)
    (first_fit g x size.Byte h ∙ none_more (numbers_in size.Byte g))))

pub shift_fit : (o : Op) (f : Option Size) (os : Operands) → Fit (family.Shift o) os (shift_draft o f os)
unfolding shift_draft numbers field_of first_field_of
shift_fit o f operands.Nothing = tt
shift_fit o f (operands.One g) = by_one_fit o f g
shift_fit o f (operands.Starred g) = tt
shift_fit o f (operands.Two (given.Immediate n) d) = by_number_fit o f n d
shift_fit o f (operands.Two (given.Register size.Byte n) d) =
    choice (FitTo (λ z. One Byte d z ++ [])) (n == 1) (by_register o f d) None (by_register_fit o f d) tt
shift_fit o f (operands.Two (given.Register size.Word n) d) = tt
shift_fit o f (operands.Two (given.Register size.Long n) d) = tt
shift_fit o f (operands.Two (given.Memory m) d) = tt
shift_fit o f (operands.Two (given.Segment m) d) = tt
shift_fit o f (operands.Two (given.Control m) d) = tt
shift_fit o f (operands.Two given.Port d) = tt
shift_fit o f (operands.Three s d g) = tt

-- ---- moves

special_fit : (ns : Size → Numbers) (o : Op) (f : Option Size) (g : Given) (a b : NumberedOperand)
    → ((z : Size) → fits_displacement (displaced a b) ≡ all_fit (ns z)) → When (FitTo ns) (special o f g a b)
unfolding special
special_fit ns o f g a b h = bind_any (FitTo ns) (agreed f (said g) (Some size.Long)) _ (λ z. instruction_fit ns o z a b (h z))

-- from a register that isn't general to a register or memory, and the other way round
abbrev Into : Given → Size → Numbers
Into g z = numbers_in z g ++ []

into_place_fit : (g : Given) (x : NumberedOperand) → PlaceFit g x → (z : Size) → fits_displacement (option_or x.displacement None)
    ≡ all_fit (Into g z)
into_place_fit g x h z = first_fit g x z h ∙ none_more (numbers_in z g)

from_special_fit : (o : Op) (f : Option Size) (r : Operand) (g : Given) → When (FitTo (Into g)) (from_special o f r g)
unfolding from_special
from_special_fit o f r g = bind_from (PlaceFit g) (FitTo (Into g)) (register_or_memory g) _ (rom_fit g)
    (λ x h. special_fit (Into g) o f g x (of_operand r) (into_place_fit g x h))

to_special_fit : (o : Op) (f : Option Size) (g : Given) (r : Operand) → When (FitTo (One Same g)) (to_special o f g r)
unfolding to_special
to_special_fit o f g r = bind_from (PlaceFit g) (FitTo (One Same g)) (register_or_memory g) _ (rom_fit g)
    (λ x h. special_fit (One Same g) o f g (of_operand r) x h)

moved_fit : (f : Option Size) (s d : Given) → When (FitTo (Two Same Same s d)) (moved f s d)
unfolding moved
moved_fit f (given.Segment r) d = from_special_fit op.ReadSeg f (operand.Segment r) d
moved_fit f (given.Control n) d = from_special_fit op.ReadControl f (operand.Control n) d
moved_fit f (given.Register z1 n1) (given.Register z2 n2) = two_fit op.Mov f (given.Register z1 n1) (given.Register z2 n2)
moved_fit f (given.Register z1 n1) (given.Segment z2) = to_special_fit op.LoadSeg f (given.Register z1 n1) (operand.Segment z2)
moved_fit f (given.Register z1 n1) (given.Control n2) = to_special_fit op.WriteControl f (given.Register z1 n1) (operand.Control n2)
moved_fit f (given.Register z1 n1) (given.Memory m2) = two_fit op.Mov f (given.Register z1 n1) (given.Memory m2)
moved_fit f (given.Register z1 n1) (given.Immediate n2) = two_fit op.Mov f (given.Register z1 n1) (given.Immediate n2)
moved_fit f (given.Register z1 n1) given.Port = two_fit op.Mov f (given.Register z1 n1) given.Port
moved_fit f (given.Memory m1) (given.Register z2 n2) = two_fit op.Mov f (given.Memory m1) (given.Register z2 n2)
moved_fit f (given.Memory m1) (given.Segment z2) = to_special_fit op.LoadSeg f (given.Memory m1) (operand.Segment z2)
moved_fit f (given.Memory m1) (given.Control n2) = to_special_fit op.WriteControl f (given.Memory m1) (operand.Control n2)
moved_fit f (given.Memory m1) (given.Memory m2) = two_fit op.Mov f (given.Memory m1) (given.Memory m2)
moved_fit f (given.Memory m1) (given.Immediate n2) = two_fit op.Mov f (given.Memory m1) (given.Immediate n2)
moved_fit f (given.Memory m1) given.Port = two_fit op.Mov f (given.Memory m1) given.Port
moved_fit f (given.Immediate n1) (given.Register z2 n2) = two_fit op.Mov f (given.Immediate n1) (given.Register z2 n2)
moved_fit f (given.Immediate n1) (given.Segment z2) = to_special_fit op.LoadSeg f (given.Immediate n1) (operand.Segment z2)
moved_fit f (given.Immediate n1) (given.Control n2) = to_special_fit op.WriteControl f (given.Immediate n1) (operand.Control n2)
moved_fit f (given.Immediate n1) (given.Memory m2) = two_fit op.Mov f (given.Immediate n1) (given.Memory m2)
moved_fit f (given.Immediate n1) (given.Immediate n2) = two_fit op.Mov f (given.Immediate n1) (given.Immediate n2)
moved_fit f (given.Immediate n1) given.Port = two_fit op.Mov f (given.Immediate n1) given.Port
moved_fit f given.Port (given.Register z2 n2) = two_fit op.Mov f given.Port (given.Register z2 n2)
moved_fit f given.Port (given.Segment z2) = to_special_fit op.LoadSeg f given.Port (operand.Segment z2)
moved_fit f given.Port (given.Control n2) = to_special_fit op.WriteControl f given.Port (operand.Control n2)
moved_fit f given.Port (given.Memory m2) = two_fit op.Mov f given.Port (given.Memory m2)
moved_fit f given.Port (given.Immediate n2) = two_fit op.Mov f given.Port (given.Immediate n2)
moved_fit f given.Port given.Port = two_fit op.Mov f given.Port given.Port

extended_fit : (o : Op) (y : Size) (s d : Given) → When (FitTo (Two Same Same s d)) (extended o y s d)
unfolding extended
extended_fit o y s (given.Register size.Long n) =
    bind_from (PlaceFit s) (FitTo (Two Same Same s (given.Register size.Long n))) (register_or_memory s) _ (rom_fit s)
    (λ x h. bind_any (FitTo (Two Same Same s (given.Register size.Long n))) (agreed (Some y) (said s) None) _
    (λ z. instruction_fit (Two Same Same s (given.Register size.Long n)) o z (register_operand n) x (h z)))
extended_fit o y s _ = tt

effective_fit : (f : Option Size) (s d : Given) → When (FitTo (Two Same Same s d)) (effective f s d)
unfolding effective
effective_fit f (given.Memory m) d = to_register_fit Same Same op.Lea f (given.Memory m) d
effective_fit f (given.Register s n) d = tt
effective_fit f (given.Segment n) d = tt
effective_fit f (given.Control n) d = tt
effective_fit f (given.Immediate n) d = tt
effective_fit f given.Port d = tt

exchanged_fit : (f : Option Size) (s d : Given) → When (FitTo (Two Same Same s d)) (of_two exchange f s d)
unfolding of_two paired instruction
exchanged_fit f (given.Register z1 n1) (given.Register z2 n2) =
    bind_any (FitTo (Two Same Same (given.Register z1 n1) (given.Register z2 n2)))
    (agreed f (said (given.Register z1 n1)) (said (given.Register z2 n2))) _ (λ z. refl)
exchanged_fit f (given.Register z1 n1) (given.Segment z2) = tt
exchanged_fit f (given.Register z1 n1) (given.Control n2) = tt
exchanged_fit f (given.Register z1 n1) (given.Memory m2) = bind_any (FitTo (Two Same Same (given.Register z1 n1) (given.Memory m2)))
    (agreed f (said (given.Register z1 n1)) (said (given.Memory m2))) _ (λ z. and_true (fits_field size.Long m2.displacement.value))
exchanged_fit f (given.Register z1 n1) (given.Immediate n2) = tt
exchanged_fit f (given.Register z1 n1) given.Port = tt
exchanged_fit f (given.Memory m1) (given.Register z2 n2) = bind_any (FitTo (Two Same Same (given.Memory m1) (given.Register z2 n2)))
    (agreed f (said (given.Memory m1)) (said (given.Register z2 n2))) _ (λ z. and_true (fits_field size.Long m1.displacement.value))
exchanged_fit f (given.Memory m1) (given.Segment z2) = tt
exchanged_fit f (given.Memory m1) (given.Control n2) = tt
exchanged_fit f (given.Memory m1) (given.Memory m2) = tt
exchanged_fit f (given.Memory m1) (given.Immediate n2) = tt
exchanged_fit f (given.Memory m1) given.Port = tt
exchanged_fit f (given.Immediate n1) (given.Register z2 n2) = bind_any (FitTo (Two Same Same (given.Immediate n1) (given.Register z2 n2)))
    (agreed f (said (given.Immediate n1)) (said (given.Register z2 n2))) _ (λ z. tt)
exchanged_fit f (given.Immediate n1) (given.Segment z2) = tt
exchanged_fit f (given.Immediate n1) (given.Control n2) = tt
exchanged_fit f (given.Immediate n1) (given.Memory m2) = bind_any (FitTo (Two Same Same (given.Immediate n1) (given.Memory m2)))
    (agreed f (said (given.Immediate n1)) (said (given.Memory m2))) _ (λ z. tt)
exchanged_fit f (given.Immediate n1) (given.Immediate n2) = tt
exchanged_fit f (given.Immediate n1) given.Port = tt
exchanged_fit f (given.Segment r) d = tt
exchanged_fit f (given.Control n) d = tt
exchanged_fit f given.Port d = tt

pub move_fit : (k : Moves) (f : Option Size) (os : Operands) → Fit (family.Moves k) os (move_draft k f os)
unfolding move_draft numbers field_of first_field_of
move_fit moves.Move f (operands.Two s d) = moved_fit f s d
move_fit (moves.Extend o y) f (operands.Two s d) = extended_fit o y s d
move_fit moves.Lea f (operands.Two s d) = effective_fit f s d
move_fit moves.Exchange f (operands.Two s d) = exchanged_fit f s d
move_fit _ f _ = tt

-- ---- the stack

of_segment_fit : (o : Op) (f : Option Size) (r : Seg) → When (FitTo (One Long (given.Segment r))) (of_segment o f r)
unfolding of_segment
of_segment_fit o f r = bind_any (FitTo (One Long (given.Segment r))) (agreed f None (Some size.Long)) _
    (λ z. unary_fit Long (given.Segment r) o z (of_operand (operand.Segment r)) (λ z. refl))

abbrev IsLong : Size → Type 0
IsLong z = z ≡ size.Long

agreed_long : (f : Option Size) → When IsLong (agreed f (Some size.Long) None)
unfolding agreed
agreed_long None = refl
agreed_long (Some size.Long) = refl
agreed_long (Some size.Word) = tt
agreed_long (Some size.Byte) = tt

pushed_number_fit : (n : Number) (z : Size) → z ≡ size.Long → FitTo (One Long (given.Immediate n)) (with_number (alone op.Push) z n)
unfolding instruction with_number
pushed_number_fit n z e = ap (λ (x : Size). fits_field x n.value) e ∙ and_true (fits_field size.Long n.value)

of_number_fit : (f : Option Size) (n : Number)
    → When (FitTo (One Long (given.Immediate n))) (agreed f (Some size.Long) None >>= λ z. Some (with_number (alone op.Push) z n))
of_number_fit f n = bind_from IsLong (FitTo (One Long (given.Immediate n))) (agreed f (Some size.Long) None) _ (agreed_long f)
    (λ z h. pushed_number_fit n z h)

pushed_fit : (f : Option Size) (g : Given) → When (FitTo (One Long g)) (pushed f g)
unfolding pushed
pushed_fit f (given.Immediate n) = of_number_fit f n
pushed_fit f (given.Segment r) = of_segment_fit op.PushSeg f r
pushed_fit f (given.Register s n) = of_one_fit Long (Some size.Long) op.Push f (given.Register s n)
pushed_fit f (given.Memory m) = of_one_fit Long (Some size.Long) op.Push f (given.Memory m)
pushed_fit f (given.Control n) = of_one_fit Long (Some size.Long) op.Push f (given.Control n)
pushed_fit f given.Port = of_one_fit Long (Some size.Long) op.Push f given.Port

popped_fit : (f : Option Size) (g : Given) → When (FitTo (One Long g)) (popped f g)
unfolding popped
popped_fit f (given.Segment r) = of_segment_fit op.PopSeg f r
popped_fit f (given.Immediate n) = of_one_fit Long (Some size.Long) op.Pop f (given.Immediate n)
popped_fit f (given.Register s n) = of_one_fit Long (Some size.Long) op.Pop f (given.Register s n)
popped_fit f (given.Memory m) = of_one_fit Long (Some size.Long) op.Pop f (given.Memory m)
popped_fit f (given.Control n) = of_one_fit Long (Some size.Long) op.Pop f (given.Control n)
popped_fit f given.Port = of_one_fit Long (Some size.Long) op.Pop f given.Port

pub stack_fit : (k : Stack) (f : Option Size) (os : Operands) → Fit (family.Stack k) os (stack_draft k f os)
unfolding stack_draft numbers field_of first_field_of
stack_fit stack.Push f (operands.One g) = pushed_fit f g
stack_fit stack.Pop f (operands.One g) = popped_fit f g
stack_fit _ f _ = tt
