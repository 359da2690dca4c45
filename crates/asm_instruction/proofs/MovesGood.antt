-- The same of moves and of the stack.
use Rattle.std.proofs.Common.{◌≡◌, ℕ, true, false, List, Option, Some, None, refl}
use Rattle.std.specs.Prelude.{min, max}
use Rattle.ia32_types.specs.declared.register.Seg.{Seg}
use Rattle.ia32_types.specs.declared.insn.Op.{Op}
use Rattle.ia32_types.specs.declared.insn.Op.TheVariants as op
use Rattle.ia32_types.specs.declared.insn.Operand.{Operand}
use Rattle.ia32_types.specs.declared.insn.Operand.TheVariants as operand
use Rattle.ia32_types.specs.declared.size.Size.{Size}
use Rattle.ia32_types.specs.declared.size.Size.TheVariants as size
use Rattle.ia32_types.specs.Branches.{is_direct_branch}
use Rattle.ia32_encode.specs.Good.{IsOperandBounded}
use Rattle.asm_source.specs.declared.tree.Argument.{Argument}
use Rattle.asm_instruction.specs.declared.argument.Number.{Number}
use Rattle.asm_instruction.specs.declared.argument.Given.{Given}
use Rattle.asm_instruction.specs.declared.argument.Given.TheVariants as given
use Rattle.asm_instruction.specs.declared.argument.Operands.{Operands}
use Rattle.asm_instruction.specs.declared.argument.Operands.TheVariants as operands
use Rattle.asm_instruction.specs.declared.moves.Moves.{Moves}
use Rattle.asm_instruction.specs.declared.moves.Moves.TheVariants as moves
use Rattle.asm_instruction.specs.declared.stack.Stack.{Stack}
use Rattle.asm_instruction.specs.declared.stack.Stack.TheVariants as stack
use Rattle.asm_instruction.specs.declared.draft.NumberedOperand.{NumberedOperand}
use Rattle.asm_instruction.specs.declared.draft.Pair.{Pair}
use Rattle.asm_instruction.specs.declared.draft.Pair.TheVariants as pair
use Rattle.asm_instruction.specs.declared.mnemonic.Family.TheVariants as family
use Rattle.asm_instruction.specs.Names.{◌>>=◌}
use Rattle.asm_instruction.specs.Sizes.{agreed}
use Rattle.asm_instruction.specs.Draft.{of_operand, nothing, register_operand, register_or_memory, said, paired, with_number, alone}
use Rattle.asm_instruction.specs.Arithmetic.{of_two}
use Rattle.asm_instruction.specs.Moves.{special, from_special, to_special, moved, extended, effective, with_register, exchange, move_draft}
use Rattle.asm_instruction.specs.Stack.{of_segment, pushed, popped, stack_draft}
use Rattle.asm_instruction.proofs.Goods.{bind_from, bind_any, PlaceGood, PairGood, GivenGood, OperandsGood, DraftGood, family_good, not_direct, Good, instruction_good, instruction_numbered, rom_good, paired_good, two_good, of_one_good, to_register_good}

module _ (args : List Argument) where
  pub special_good : (o : Op) (f : Option Size) (g : Given) (a b : NumberedOperand) → is_direct_branch o ≡ false → PlaceGood a → PlaceGood b
      → Good args (special o f g a b)
  unfolding special
  special_good o f g a b e p q = bind_any (DraftGood args) (agreed f (said g) (Some size.Long)) _ (λ z. instruction_good args o z a b e p q)

  pub from_special_good : (o : Op) (f : Option Size) (x : Operand) (g : Given) → is_direct_branch o ≡ false → IsOperandBounded x
      → GivenGood args g → Good args (from_special o f x g)
  unfolding from_special
  from_special_good o f x g e b p =
      bind_from PlaceGood (DraftGood args) (register_or_memory g) _ (rom_good args g p) (λ y h. special_good o f g y (of_operand x) e h b)

  pub to_special_good : (o : Op) (f : Option Size) (g : Given) (x : Operand) → is_direct_branch o ≡ false → IsOperandBounded x
      → GivenGood args g → Good args (to_special o f g x)
  unfolding to_special
  to_special_good o f g x e b p =
      bind_from PlaceGood (DraftGood args) (register_or_memory g) _ (rom_good args g p) (λ y h. special_good o f g (of_operand x) y e b h)

  pub moved_good : (f : Option Size) (s d : Given) → GivenGood args s → GivenGood args d → Good args (moved f s d)
  unfolding moved
  moved_good f (given.Segment z) d p q = from_special_good op.ReadSeg f (operand.Segment z) d refl tt q
  moved_good f (given.Control n) d p q = from_special_good op.ReadControl f (operand.Control n) d refl tt q
  moved_good f (given.Register z1 n1) (given.Register z2 n2) p q =
      two_good args op.Mov f (given.Register z1 n1) (given.Register z2 n2) refl p q
  moved_good f (given.Register z1 n1) (given.Segment z2) p q =
      to_special_good op.LoadSeg f (given.Register z1 n1) (operand.Segment z2) refl tt p
  moved_good f (given.Register z1 n1) (given.Control n2) p q =
      to_special_good op.WriteControl f (given.Register z1 n1) (operand.Control n2) refl tt p
  moved_good f (given.Register z1 n1) (given.Memory m2) p q = two_good args op.Mov f (given.Register z1 n1) (given.Memory m2) refl p q
  moved_good f (given.Register z1 n1) (given.Immediate n2) p q = two_good args op.Mov f (given.Register z1 n1) (given.Immediate n2) refl p q
  moved_good f (given.Register z1 n1) given.Port p q = two_good args op.Mov f (given.Register z1 n1) given.Port refl p q
  moved_good f (given.Memory m1) (given.Register z2 n2) p q = two_good args op.Mov f (given.Memory m1) (given.Register z2 n2) refl p q
  moved_good f (given.Memory m1) (given.Segment z2) p q = to_special_good op.LoadSeg f (given.Memory m1) (operand.Segment z2) refl tt p
  moved_good f (given.Memory m1) (given.Control n2) p q = to_special_good op.WriteControl f (given.Memory m1) (operand.Control n2) refl tt p
  moved_good f (given.Memory m1) (given.Memory m2) p q = two_good args op.Mov f (given.Memory m1) (given.Memory m2) refl p q
  moved_good f (given.Memory m1) (given.Immediate n2) p q = two_good args op.Mov f (given.Memory m1) (given.Immediate n2) refl p q
  moved_good f (given.Memory m1) given.Port p q = two_good args op.Mov f (given.Memory m1) given.Port refl p q
  moved_good f (given.Immediate n1) (given.Register z2 n2) p q = two_good args op.Mov f (given.Immediate n1) (given.Register z2 n2) refl p q
  moved_good f (given.Immediate n1) (given.Segment z2) p q =
      to_special_good op.LoadSeg f (given.Immediate n1) (operand.Segment z2) refl tt p
  moved_good f (given.Immediate n1) (given.Control n2) p q =
      to_special_good op.WriteControl f (given.Immediate n1) (operand.Control n2) refl tt p
  moved_good f (given.Immediate n1) (given.Memory m2) p q = two_good args op.Mov f (given.Immediate n1) (given.Memory m2) refl p q
  moved_good f (given.Immediate n1) (given.Immediate n2) p q = two_good args op.Mov f (given.Immediate n1) (given.Immediate n2) refl p q
  moved_good f (given.Immediate n1) given.Port p q = two_good args op.Mov f (given.Immediate n1) given.Port refl p q
  moved_good f given.Port (given.Register z2 n2) p q = two_good args op.Mov f given.Port (given.Register z2 n2) refl p q
  moved_good f given.Port (given.Segment z2) p q = to_special_good op.LoadSeg f given.Port (operand.Segment z2) refl tt p
  moved_good f given.Port (given.Control n2) p q = to_special_good op.WriteControl f given.Port (operand.Control n2) refl tt p
  moved_good f given.Port (given.Memory m2) p q = two_good args op.Mov f given.Port (given.Memory m2) refl p q
  moved_good f given.Port (given.Immediate n2) p q = two_good args op.Mov f given.Port (given.Immediate n2) refl p q
  moved_good f given.Port given.Port p q = two_good args op.Mov f given.Port given.Port refl p q

  pub extended_good : (o : Op) (z : Size) (s d : Given) → is_direct_branch o ≡ false → GivenGood args s → Good args (extended o z s d)
  unfolding extended
  extended_good o z s (given.Register size.Long n) e p =
      bind_from PlaceGood (DraftGood args) (register_or_memory s) _ (rom_good args s p)
      (λ x h. bind_any (DraftGood args) (agreed (Some z) (said s) None) _ (λ y. instruction_good args o y (register_operand n) x e tt h))
  extended_good o z s _ e p = tt

  pub effective_good : (f : Option Size) (s d : Given) → GivenGood args s → Good args (effective f s d)
  unfolding effective
  effective_good f (given.Memory m) d p = to_register_good args op.Lea f (given.Memory m) d refl p
  effective_good f (given.Register s n) d p = tt
  effective_good f (given.Segment n) d p = tt
  effective_good f (given.Control n) d p = tt
  effective_good f (given.Immediate n) d p = tt
  effective_good f given.Port d p = tt

  pub with_register_good : (s : Size) (n : ℕ) (x : NumberedOperand) (o : Operand) → PlaceGood x → DraftGood args (with_register s n x o)
  with_register_good s n x (operand.Register m) h =
      instruction_good args op.Xchg s (register_operand (min n m)) (register_operand (max n m)) refl tt tt
  with_register_good s n x (operand.Memory m) h = instruction_good args op.Xchg s x (register_operand n) refl h tt
  with_register_good s n x operand.Absent h = instruction_good args op.Xchg s x (register_operand n) refl h tt
  with_register_good s n x (operand.Segment m) h = instruction_good args op.Xchg s x (register_operand n) refl h tt
  with_register_good s n x (operand.Control m) h = instruction_good args op.Xchg s x (register_operand n) refl h tt

  pub exchange_good : (s : Size) (p : Pair) → PairGood p → Good args (exchange s p)
  exchange_good s (pair.Immediate n x) h = tt
  exchange_good s (pair.FromRegister n x) h = with_register_good s n x x.operand h
  exchange_good s (pair.FromMemory x n) h = instruction_good args op.Xchg s x (register_operand n) refl h tt

  pub exchanged_good : (f : Option Size) (s d : Given) → GivenGood args s → GivenGood args d → Good args (of_two exchange f s d)
  unfolding of_two
  exchanged_good f s d p q = bind_from PairGood (DraftGood args) (paired s d) _ (paired_good args s d p q)
      (λ x h. bind_any (DraftGood args) (agreed f (said s) (said d)) _ (λ z. exchange_good z x h))

  pub move_good : (k : Moves) (f : Option Size) (os : Operands) → family_good (family.Moves k) ≡ true → OperandsGood args os
      → Good args (move_draft k f os)
  unfolding move_draft
  move_good moves.Move f (operands.Two s d) e h = moved_good f s d h.0 h.1
  move_good (moves.Extend o z) f (operands.Two s d) e h = extended_good o z s d (not_direct o e) h.0
  move_good moves.Lea f (operands.Two s d) e h = effective_good f s d h.0
  move_good moves.Exchange f (operands.Two s d) e h = exchanged_good f s d h.0 h.1
  move_good _ f _ e h = tt

  pub of_segment_good : (o : Op) (f : Option Size) (z : Seg) → is_direct_branch o ≡ false → Good args (of_segment o f z)
  unfolding of_segment
  of_segment_good o f z e = bind_any (DraftGood args) (agreed f None (Some size.Long)) _
      (λ y. instruction_good args o y (of_operand (operand.Segment z)) nothing e tt tt)

  pub of_number_good : (f : Option Size) (n : Number)
      → Good args (agreed f (Some size.Long) None >>= λ z. Some (with_number (alone op.Push) z n))
  of_number_good f n = bind_any (DraftGood args) (agreed f (Some size.Long) None) _
      (λ z. instruction_numbered args op.Push size.Long z nothing nothing n refl tt tt)

  pub pushed_good : (f : Option Size) (g : Given) → GivenGood args g → Good args (pushed f g)
  unfolding pushed
  pushed_good f (given.Immediate n) p = of_number_good f n
  pushed_good f (given.Segment z) p = of_segment_good op.PushSeg f z refl
  pushed_good f (given.Register s n) p = of_one_good args (Some size.Long) op.Push f (given.Register s n) refl p
  pushed_good f (given.Memory m) p = of_one_good args (Some size.Long) op.Push f (given.Memory m) refl p
  pushed_good f (given.Control n) p = of_one_good args (Some size.Long) op.Push f (given.Control n) refl p
  pushed_good f given.Port p = of_one_good args (Some size.Long) op.Push f given.Port refl p

  pub popped_good : (f : Option Size) (g : Given) → GivenGood args g → Good args (popped f g)
  unfolding popped
  popped_good f (given.Segment z) p = of_segment_good op.PopSeg f z refl
  popped_good f (given.Immediate n) p = of_one_good args (Some size.Long) op.Pop f (given.Immediate n) refl p
  popped_good f (given.Register s n) p = of_one_good args (Some size.Long) op.Pop f (given.Register s n) refl p
  popped_good f (given.Memory m) p = of_one_good args (Some size.Long) op.Pop f (given.Memory m) refl p
  popped_good f (given.Control n) p = of_one_good args (Some size.Long) op.Pop f (given.Control n) refl p
  popped_good f given.Port p = of_one_good args (Some size.Long) op.Pop f given.Port refl p

  pub stack_good : (k : Stack) (f : Option Size) (os : Operands) → OperandsGood args os → Good args (stack_draft k f os)
  unfolding stack_draft
  stack_good stack.Push f (operands.One g) h = pushed_good f g h
  stack_good stack.Pop f (operands.One g) h = popped_good f g h
  stack_good _ f _ h = tt
