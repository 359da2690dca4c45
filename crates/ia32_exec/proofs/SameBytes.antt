-- The outcome of an instruction is the same over bytes that are the same in its ranges.
use Rattle.std.proofs.Common.{◌≡◌, ℕ, ◌+◌, ◌*◌, ◌/◌, ◌<◌, ◌^◌, ◌%◌, Bool, true, false, cond, refl, sym, ap, subst, ◌∙◌, Some, None, [], ◌∷◌, arith}
use Rattle.std.specs.Prelude.{slice_index, if◌then◌else◌}
use Rattle.std.specs.Option.{option_or}
use Rattle.ia32_types.specs.declared.size.Size.{Size}
use Rattle.ia32_types.specs.declared.size.Size.TheVariants.{Byte, Word, Long}
use Rattle.ia32_types.specs.declared.register.Seg.TheVariants.{Ds}
use Rattle.ia32_types.specs.declared.flags.Regs.{Regs}
use Rattle.ia32_types.specs.declared.stop.Stop.TheVariants.{Unsupported, FlagBits}
use Rattle.ia32_types.specs.declared.insn.Insn.{Insn}
use Rattle.ia32_types.specs.declared.insn.Op.{Op}
use Rattle.ia32_types.specs.declared.insn.Op.TheVariants.{Add, Or, Adc, Sbb, And, Sub, Xor, Cmp, Test, Not, Neg, Mul, Imul, ImulBy, Div, Idiv, Inc, Dec, Rol, Ror, Shl, Shr, Sar, Mov, Movzx, Movsx, Lea, Xchg, Push, Pop, Pusha, Popa, Cwde, Cdq, Leave, Nop, Jcc, Setcc, Jmp, Call, Ud2, Movs, Stos, Lods, Clc, Stc, Cld, Std, PushFlags, PopFlags, ReadSeg, PushSeg, Return, JumpTo, CallTo}
use Rattle.ia32_types.specs.declared.insn.Operand.{Operand}
use Rattle.ia32_types.specs.declared.insn.Operand.TheVariants.{Absent, Register, Memory, Segment, Control}
use Rattle.ia32_types.specs.Shape.{IsAlone, IsShaped}
use Rattle.ia32_types.specs.Size.{width, span}
use Rattle.ia32_alu.specs.Arithmetic.{alu}
use Rattle.ia32_alu.specs.Shift.{shift}
use Rattle.ia32_alu.specs.Product.{multiply}
use Rattle.ia32_alu.specs.Quotient.{divide}
use Rattle.ia32_exec.specs.declared.outcome.Outcome.{Outcome}
use Rattle.ia32_exec.specs.declared.outcome.Outcome.TheVariants.{Done, Stop}
use Rattle.ia32_exec.specs.declared.outcome.Stores.TheVariants.{Nothing, One}
use Rattle.ia32_exec.specs.declared.selectors.Selectors.{Selectors}
use Rattle.ia32_exec.specs.Memory.{number_at, store}
use Rattle.ia32_exec.specs.Registers.{register_value, with_register, with_whole, address_of, eip_past}
use Rattle.ia32_exec.specs.Ranges.{operand_range}
use Rattle.ia32_exec.specs.Readable.{AreAll, Covers}
use Rattle.ia32_exec.specs.Operands.{value_of, source_of, to_destination, kept_in, done}
use Rattle.ia32_exec.specs.Arithmetic.{flagged, count_of, arithmetic, tested, shifted, with_halves, upper, multiplied, signed_by, signed_multiplied, product_to, multiplied_by, shared, divided}
use Rattle.ia32_exec.specs.Moves.{loaded_address, moved, moved_with_zeros, moved_with_sign, exchanged}
use Rattle.ia32_exec.specs.Stack.{stack_of, esp_below, esp_above, slot_of, is_foreign, taken, pushed, pushed_number, popped, all_popped, frame_left, flags_popped}
use Rattle.ia32_exec.specs.Strings.{is_over, moved_on, string, turn, counted}
use Rattle.ia32_exec.specs.Effect.{row, ranges_row, effect, ranges_of}
use Rattle.ia32_types.specs.Places.{is_place}
use Rattle.ia32_types.specs.Bits.{sign_extended}
use Rattle.ia32_exec.specs.Transfers.{gone_to}
use Rattle.ia32_exec.specs.UserTransfers.{returned, jumped_through, called_through}
use Rattle.ia32_exec.specs.UserEffect.{user_row, user_effect}
use Rattle.ia32_exec.specs.SameBytes.{SameOverRanges}

two : {A : Type 0} (f : ℕ → ℕ → A) (x y v w : ℕ) → x ≡ v → y ≡ w → f x y ≡ f v w
two f x y v w e g = ap (λ n. f n y) e ∙ ap (f v) g

module _ (b c : ℕ → ℕ) where
  abbrev Same : ℕ → Type 0
  Same a = b a ≡ c a

  at_first : (at n : ℕ) → 0 < n → AreAll Same at n → b at ≡ c at
  at_first at n lt h = let z : at + 0 ≡ at = omega arith in subst Same z (h 0 lt)

  number_same : (s : Size) (at : ℕ) → AreAll Same at (width s / 8) → number_at b s at ≡ number_at c s at
  number_same Byte at h = at_first at 1 (omega arith) h
  number_same Word at h = two (λ x y. x + y * 2 ^ 8) _ _ _ _ (at_first at 2 (omega arith) h) (h 1 (omega arith))
  number_same Long at h =
      two (λ x y. x + y * 2 ^ 24) _ _ _ _
      (two (λ x y. x + y * 2 ^ 16) _ _ _ _
      (two (λ x y. x + y * 2 ^ 8) _ _ _ _ (at_first at 4 (omega arith) h) (h 1 (omega arith)))
      (h 2 (omega arith)))
      (h 3 (omega arith))

  value_same : (o : Operand) (s : Size) (r : Regs) → Covers Same (operand_range o s r) → value_of o s r b ≡ value_of o s r c
  value_same Absent s r h = refl
  value_same (Register n) s r h = refl
  value_same (Memory a) s r h = number_same s (address_of a r) h
  value_same (Segment g) s r h = refl
  value_same (Control n) s r h = refl

  source_same : (o : Operand) (imm : ℕ) (s : Size) (r : Regs) → Covers Same (operand_range o s r)
      → source_of o imm s r b ≡ source_of o imm s r c
  source_same Absent imm s r h = refl
  source_same (Register n) imm s r h = refl
  source_same (Memory a) imm s r h = number_same s (address_of a r) h
  source_same (Segment g) imm s r h = refl
  source_same (Control n) imm s r h = refl

  -- of two operands one at most is in memory
  both_covered : (x y : Operand) (s : Size) (r : Regs) → IsAlone x y → Covers Same (option_or (operand_range x s r) (operand_range y s r))
      → Covers Same (operand_range x s r) × Covers Same (operand_range y s r)
  both_covered Absent y s r a h = (tt, h)
  both_covered (Register n) y s r a h = (tt, h)
  both_covered (Segment g) y s r a h = (tt, h)
  both_covered (Control n) y s r a h = (tt, h)
  both_covered (Memory p) Absent s r a h = (h, tt)
  both_covered (Memory p) (Register n) s r a h = (h, tt)
  both_covered (Memory p) (Memory q) s r a h = absurd a
  both_covered (Memory p) (Segment g) s r a h = (h, tt)
  both_covered (Memory p) (Control n) s r a h = (h, tt)

  arithmetic_same : (i : Insn) (len : ℕ) (r : Regs) → Covers Same (operand_range i.b i.size r) → Covers Same (operand_range i.a i.size r)
      → arithmetic i len r b ≡ arithmetic i len r c
  unfolding arithmetic
  arithmetic_same i len r h k =
      two (λ x y. done (to_destination i.a i.size (alu i.op i.size x y r.flags).0 (flagged len (alu i.op i.size x y r.flags).1 r))) _ _ _ _
      (value_same i.a i.size r k) (source_same i.b i.imm i.size r h)

  tested_same : (i : Insn) (len : ℕ) (r : Regs) → Covers Same (operand_range i.a i.size r) × Covers Same (operand_range i.b i.size r)
      → tested i len r b ≡ tested i len r c
  unfolding tested
  tested_same i len r h = two (λ x y. Done (flagged len (alu i.op i.size x y r.flags).1 r) Nothing) _ _ _ _ (value_same i.a i.size r h.0)
      (source_same i.b i.imm i.size r h.1)

  shifted_same : (i : Insn) (len : ℕ) (r : Regs) → Covers Same (operand_range i.a i.size r) → shifted i len r b ≡ shifted i len r c
  unfolding shifted
  shifted_same i len r h =
      ap (λ x. done (to_destination i.a i.size (shift i.op i.size x (count_of i.b i.imm r) r.flags).0
      (flagged len (shift i.op i.size x (count_of i.b i.imm r) r.flags).1 r))) (value_same i.a i.size r h)

  multiplied_same : (sign : Bool) (i : Insn) (len : ℕ) (r : Regs) → Covers Same (operand_range i.a i.size r)
      → multiplied sign i len r b ≡ multiplied sign i len r c
  unfolding multiplied
  multiplied_same sign i len r h =
      ap (λ x.
      Done (with_halves i.size ((multiply sign i.size (register_value i.size 0 r) x r.flags).0 % span i.size)
      ((multiply sign i.size (register_value i.size 0 r) x r.flags).0 / span i.size)
      (flagged len (multiply sign i.size (register_value i.size 0 r) x r.flags).1 r)) Nothing) (value_same i.a i.size r h)

  product_same : (i : Insn) (len : ℕ) (r : Regs) (o : Operand) → Covers Same (operand_range i.a i.size r)
      → Covers Same (operand_range o i.size r)
      → product_to i (value_of i.a i.size r b) (value_of o i.size r b) len r ≡ product_to i (value_of i.a i.size r c)
      (value_of o i.size r c) len r
  product_same i len r o h k = two (λ x y. product_to i x y len r) _ _ _ _ (value_same i.a i.size r h) (value_same o i.size r k)

  signed_same : (o : Operand) (i : Insn) (len : ℕ) (r : Regs) → Covers Same (operand_range i.a i.size r)
      → Covers Same (operand_range o i.size r) → signed_by o i len r b ≡ signed_by o i len r c
  signed_same Absent i len r h k = multiplied_same true i len r h
  signed_same (Register n) i len r h k = product_same i len r (Register n) h k
  signed_same (Memory a) i len r h k = product_same i len r (Memory a) h k
  signed_same (Segment g) i len r h k = product_same i len r (Segment g) h k
  signed_same (Control n) i len r h k = product_same i len r (Control n) h k

  divided_same : (sign : Bool) (i : Insn) (len : ℕ) (r : Regs) → Covers Same (operand_range i.a i.size r)
      → divided sign i len r b ≡ divided sign i len r c
  unfolding divided
  divided_same sign i len r h =
      ap (λ x. shared i.size (divide sign i.size (register_value i.size (upper i.size) r) (register_value i.size 0 r) x) (eip_past len r))
      (value_same i.a i.size r h)

  -- a string instruction that reads
  turn_same : (over : Bool) (x : Outcome) (f : ℕ → Outcome) (s : Size) (at : ℕ)
      → Covers Same (cond over None (Some (record { at = at; len = width s / 8; seg = Ds })))
      → cond over x (f (number_at b s at)) ≡ cond over x (f (number_at c s at))
  turn_same true x f s at h = refl
  turn_same false x f s at h = ap f (number_same s at h)

  slot_same : (r : Regs) (k : ℕ) → k < 8 → AreAll Same (stack_of r) 32 → slot_of k r b ≡ slot_of k r c
  slot_same r k lt h = number_same Long (stack_of r + 4 * k) (λ j near.
      let within : 4 * k + j < 32 = omega (arith, lt, near) in
      let e : stack_of r + (4 * k + j) ≡ stack_of r + 4 * k + j = omega arith in
      subst Same e (h (4 * k + j) within))

  all_popped_same : (len : ℕ) (r : Regs) → AreAll Same (stack_of r) 32 → all_popped len r b ≡ all_popped len r c
  unfolding all_popped
  all_popped_same len r h =
      let f : ℕ → ℕ → ℕ → ℕ → ℕ → ℕ → ℕ → Outcome =
      λ p q s t u v w. Done (eip_past len (record r { r = p ∷ q ∷ s ∷ t ∷ esp_above 32 r ∷ u ∷ v ∷ w ∷ [] })) Nothing in
      let g : (k : ℕ) → k < 8 → slot_of k r b ≡ slot_of k r c = λ k lt. slot_same r k lt h in
      ap (λ x. f x (slot_of 6 r b) (slot_of 5 r b) (slot_of 4 r b) (slot_of 2 r b) (slot_of 1 r b) (slot_of 0 r b)) (g 7 (omega arith))
      ∙ ap (λ x. f (slot_of 7 r c) x (slot_of 5 r b) (slot_of 4 r b) (slot_of 2 r b) (slot_of 1 r b) (slot_of 0 r b)) (g 6 (omega arith))
      ∙ ap (λ x. f (slot_of 7 r c) (slot_of 6 r c) x (slot_of 4 r b) (slot_of 2 r b) (slot_of 1 r b) (slot_of 0 r b)) (g 5 (omega arith))
      ∙ ap (λ x. f (slot_of 7 r c) (slot_of 6 r c) (slot_of 5 r c) x (slot_of 2 r b) (slot_of 1 r b) (slot_of 0 r b)) (g 4 (omega arith))
      ∙ ap (λ x. f (slot_of 7 r c) (slot_of 6 r c) (slot_of 5 r c) (slot_of 4 r c) x (slot_of 1 r b) (slot_of 0 r b)) (g 2 (omega arith))
      ∙ ap (λ x. f (slot_of 7 r c) (slot_of 6 r c) (slot_of 5 r c) (slot_of 4 r c) (slot_of 2 r c) x (slot_of 0 r b)) (g 1 (omega arith))
      ∙ ap (λ x. f (slot_of 7 r c) (slot_of 6 r c) (slot_of 5 r c) (slot_of 4 r c) (slot_of 2 r c) (slot_of 1 r c) x) (g 0 (omega arith))

  row_same : (op : Op) (i : Insn) (len : ℕ) (r : Regs) → IsShaped i → Covers Same (ranges_row op i r).read
      → Covers Same (ranges_row op i r).write → row op i len r b ≡ row op i len r c
  unfolding loaded_address signed_multiplied multiplied_by moved moved_with_zeros moved_with_sign exchanged pushed popped
      frame_left flags_popped string
  row_same Add i len r s h k = arithmetic_same i len r h k
  row_same Or i len r s h k = arithmetic_same i len r h k
  row_same Adc i len r s h k = arithmetic_same i len r h k
  row_same Sbb i len r s h k = arithmetic_same i len r h k
  row_same And i len r s h k = arithmetic_same i len r h k
  row_same Sub i len r s h k = arithmetic_same i len r h k
  row_same Xor i len r s h k = arithmetic_same i len r h k
  row_same Not i len r s h k = arithmetic_same i len r h k
  row_same Neg i len r s h k = arithmetic_same i len r h k
  row_same Inc i len r s h k = arithmetic_same i len r h k
  row_same Dec i len r s h k = arithmetic_same i len r h k
  row_same Cmp i len r s h k = tested_same i len r (both_covered i.a i.b i.size r s.alone h)
  row_same Test i len r s h k = tested_same i len r (both_covered i.a i.b i.size r s.alone h)
  row_same Rol i len r s h k = shifted_same i len r k
  row_same Ror i len r s h k = shifted_same i len r k
  row_same Shl i len r s h k = shifted_same i len r k
  row_same Shr i len r s h k = shifted_same i len r k
  row_same Sar i len r s h k = shifted_same i len r k
  row_same Mul i len r s h k = multiplied_same false i len r h
  row_same Imul i len r s h k = let p = both_covered i.a i.b i.size r s.alone h in signed_same i.b i len r p.0 p.1
  row_same ImulBy i len r s h k = ap (λ x. product_to i x i.imm len r) (value_same i.b i.size r h)
  row_same Div i len r s h k = divided_same false i len r h
  row_same Idiv i len r s h k = divided_same true i len r h
  row_same Mov i len r s h k = ap (λ x. done (to_destination i.a i.size x (eip_past len r))) (source_same i.b i.imm i.size r h)
  row_same Movzx i len r s h k = ap (λ x. Done (kept_in i.a Long x (eip_past len r)) Nothing) (value_same i.b i.size r h)
  row_same Movsx i len r s h k =
      ap (λ x. Done (kept_in i.a Long (sign_extended 32 i.size x) (eip_past len r)) Nothing) (value_same i.b i.size r h)
  row_same Lea i len r s h k = refl
  row_same Xchg i len r s h k =
      two (λ x y. Done (kept_in i.b i.size x (to_destination i.a i.size y (eip_past len r)).0)
      (to_destination i.a i.size y (eip_past len r)).1) _ _ _ _ (value_same i.a i.size r k) (value_same i.b i.size r h)
  row_same Push i len r s h k = ap (λ x. pushed_number x (eip_past len r)) (source_same i.a i.imm Long r h)
  row_same Pop i len r s h k =
      ap (λ x. done (to_destination i.a Long x (eip_past len (with_whole 4 (esp_above 4 r) r)))) (number_same Long (stack_of r) h)
  row_same Pusha i len r s h k = refl
  row_same Popa i len r s h k = all_popped_same len r h
  row_same Cwde i len r s h k = refl
  row_same Cdq i len r s h k = refl
  row_same Leave i len r s h k =
      ap (λ x. Done (eip_past len (with_whole 5 x (with_whole 4 ((slice_index r.r 5 + 4) % 2 ^ 32) r))) Nothing)
      (number_same Long (slice_index r.r 5) h)
  row_same Nop i len r s h k = refl
  row_same Jcc i len r s h k = refl
  row_same Setcc i len r s h k = refl
  row_same Jmp i len r s h k = refl
  row_same Call i len r s h k = refl
  row_same Ud2 i len r s h k = refl
  row_same Movs i len r s h k =
      turn_same (is_over i r) _
      (λ x. Done (counted i.rep (slice_index r.r 1) len (turn Movs i.size r b).0) (One (store (slice_index r.r 7) i.size x))) i.size
      (slice_index r.r 6) h
  row_same Stos i len r s h k = refl
  row_same Lods i len r s h k =
      turn_same (is_over i r) _ (λ x. Done (counted i.rep (slice_index r.r 1) len (moved_on 6 i.size (with_register i.size 0 x r))) Nothing)
      i.size (slice_index r.r 6) h
  row_same Clc i len r s h k = refl
  row_same Stc i len r s h k = refl
  row_same Cld i len r s h k = refl
  row_same Std i len r s h k = refl
  row_same PushFlags i len r s h k = refl
  row_same PopFlags i len r s h k =
      ap (λ x. if is_foreign x then (Stop FlagBits)
      else (Done (eip_past len (with_whole 4 (esp_above 4 r) (record r { flags = taken r.flags x }))) Nothing)) (number_same
      Long (stack_of r) h)
  row_same op i len r s h k = refl

  user_row_same : (op : Op) (g : Selectors) (i : Insn) (len : ℕ) (r : Regs) → i.op ≡ op → IsShaped i → Covers Same (ranges_row op i r).read
      → Covers Same (ranges_row op i r).write
      → user_row op g i len r b ≡ user_row op g i len r c
  unfolding returned jumped_through called_through effect
  user_row_same Return g i len r e s h k =
      ap (λ x. Done (gone_to x (with_whole 4 (esp_above (4 + i.imm) r) r)) Nothing) (number_same Long (stack_of r) h)
  user_row_same JumpTo g i len r e s h k =
      ap (λ x. cond (is_place i.a) (Done (gone_to x r) Nothing) (Stop Unsupported)) (value_same i.a Long r h)
  user_row_same CallTo g i len r e s h k =
      ap (λ x. cond (is_place i.a)
      (Done (gone_to x (with_whole 4 (esp_below 4 r) r)) (One (store (esp_below 4 r) Long (eip_past len r).eip))) (Stop Unsupported))
      (value_same i.a Long r h)
  user_row_same ReadSeg g i len r e s h k = refl
  user_row_same PushSeg g i len r e s h k = refl
  user_row_same op g i len r e s h k =
      row_same i.op i len r s (subst (λ (o : Op). Covers Same (ranges_row o i r).read) (sym e) h)
      (subst (λ (o : Op). Covers Same (ranges_row o i r).write) (sym e) k)

  user_same : (g : Selectors) (i : Insn) (len : ℕ) (r : Regs) → IsShaped i → Covers Same (ranges_of i r).read
      → Covers Same (ranges_of i r).write → user_effect g i len r b ≡ user_effect g i len r c
  unfolding user_effect ranges_of
  user_same g i len r s h k = user_row_same i.op g i len r refl s h k

pub same_over : SameOverRanges
same_over b c g i len r s h k = user_same b c g i len r s h k
