-- Where EIP is after an instruction.
use Rattle.std.proofs.Common.{◌≡◌, ℕ, ◌+◌, ◌-◌, ◌%◌, ◌^◌, Bool, true, false, cond, Option, Some, None, refl, ap, ◌∙◌, inl, inr, nat_lt}
use Rattle.std.specs.Prelude.{◌==◌, slice_index}
use Rattle.ia32_types.specs.declared.size.Size.{Size}
use Rattle.ia32_types.specs.declared.size.Size.TheVariants.{Byte, Word, Long}
use Rattle.ia32_types.specs.declared.flags.Regs.{Regs}
use Rattle.ia32_types.specs.declared.insn.Insn.{Insn}
use Rattle.ia32_types.specs.declared.insn.Op.{Op}
use Rattle.ia32_types.specs.declared.insn.Op.TheVariants as op
use Rattle.ia32_types.specs.declared.insn.Operand.{Operand}
use Rattle.ia32_types.specs.declared.insn.Operand.TheVariants.{Absent, Register, Memory, Segment, Control}
use Rattle.ia32_types.specs.declared.flags.TheConstants.{CARRY_AT, DIRECTION_AT}
use Rattle.ia32_exec.specs.declared.outcome.Outcome.{Outcome}
use Rattle.ia32_exec.specs.Operands.{to_destination, kept_in}
use Rattle.ia32_exec.specs.Registers.{with_register, with_whole, eip_past}
use Rattle.ia32_exec.specs.Arithmetic.{arithmetic, tested, shifted, upper, with_halves, multiplied, product_to, signed_by, signed_multiplied, multiplied_by, shared, divided}
use Rattle.ia32_exec.specs.Moves.{moved, moved_with_zeros, moved_with_sign, loaded_address, exchanged, widened, sign_spread}
use Rattle.ia32_exec.specs.Stack.{pushed_number, pushed, popped, all_pushed, all_popped, frame_left, called, flags_pushed, is_foreign, top_of_stack, flags_popped}
use Rattle.ia32_exec.specs.Control.{condition, jumped, jump, branched, set_by, flag_made}
use Rattle.ia32_exec.specs.Strings.{is_over, turn, counted, string}
use Rattle.ia32_exec.specs.Readable.{IsString}
use Rattle.ia32_exec.specs.Effect.{row, effect}
use Rattle.ia32_exec.specs.EipAfter.{IsEipAfter, Leads, EipGoesOn}

-- ---- EIP stays as it is

either_eip : (b : Bool) (x y : Regs) (e : ℕ) → x.eip ≡ e → y.eip ≡ e → (cond b x y).eip ≡ e
either_eip true x y e p q = p
either_eip false x y e p q = q

with_register_eip : (s : Size) (n v : ℕ) (r : Regs) → (with_register s n v r).eip ≡ r.eip
unfolding with_register
with_register_eip Byte n v r = either_eip (nat_lt n 4) _ _ r.eip refl refl
with_register_eip Word n v r = refl
with_register_eip Long n v r = refl

destination_eip : (o : Operand) (s : Size) (v : ℕ) (r : Regs) → (to_destination o s v r).0.eip ≡ r.eip
destination_eip (Register n) s v r = with_register_eip s n v r
destination_eip Absent s v r = refl
destination_eip (Memory a) s v r = refl
destination_eip (Segment g) s v r = refl
destination_eip (Control n) s v r = refl

kept_in_eip : (o : Operand) (s : Size) (v : ℕ) (r : Regs) → (kept_in o s v r).eip ≡ r.eip
kept_in_eip (Register n) s v r = with_register_eip s n v r
kept_in_eip Absent s v r = refl
kept_in_eip (Memory a) s v r = refl
kept_in_eip (Segment g) s v r = refl
kept_in_eip (Control n) s v r = refl

with_halves_eip : (s : Size) (below above : ℕ) (r : Regs) → (with_halves s below above r).eip ≡ r.eip
with_halves_eip s below above r = with_register_eip s (upper s) above (with_register s 0 below r) ∙ with_register_eip s 0 below r

-- ---- the rows

module _ (o : Op) (i : Insn) (len : ℕ) (r : Regs) (b : ℕ → ℕ) where
  either_leads : (test : Bool) (x y : Outcome) → Leads o i len r x → Leads o i len r y → Leads o i len r (cond test x y)
  either_leads true x y p q = p
  either_leads false x y p q = q

  arithmetic_leads : Leads o i len r (arithmetic i len r b)
  unfolding arithmetic
  arithmetic_leads = inl (destination_eip i.a i.size _ _)

  tested_leads : Leads o i len r (tested i len r b)
  unfolding tested
  tested_leads = inl refl

  shifted_leads : Leads o i len r (shifted i len r b)
  unfolding shifted
  shifted_leads = inl (destination_eip i.a i.size _ _)

  product_to_leads : (x y : ℕ) → Leads o i len r (product_to i x y len r)
  unfolding product_to
  product_to_leads x y = inl (kept_in_eip i.a i.size _ _)

  moved_leads : Leads o i len r (moved i len r b)
  unfolding moved
  moved_leads = inl (destination_eip i.a i.size _ _)

  moved_with_zeros_leads : Leads o i len r (moved_with_zeros i len r b)
  unfolding moved_with_zeros
  moved_with_zeros_leads = inl (kept_in_eip i.a Long _ _)

  moved_with_sign_leads : Leads o i len r (moved_with_sign i len r b)
  unfolding moved_with_sign
  moved_with_sign_leads = inl (kept_in_eip i.a Long _ _)

  loaded_address_leads : Leads o i len r (loaded_address i len r b)
  unfolding loaded_address
  loaded_address_leads = inl (kept_in_eip i.a Long _ _)

  exchanged_leads : Leads o i len r (exchanged i len r b)
  unfolding exchanged
  exchanged_leads = inl (kept_in_eip i.b i.size _ _ ∙ destination_eip i.a i.size _ (eip_past len r))

  pushed_leads : Leads o i len r (pushed i len r b)
  unfolding pushed pushed_number
  pushed_leads = inl refl

  popped_leads : Leads o i len r (popped i len r b)
  unfolding popped
  popped_leads = inl (destination_eip i.a Long _ _)

  all_pushed_leads : Leads o i len r (all_pushed len r)
  unfolding all_pushed
  all_pushed_leads = inl refl

  all_popped_leads : Leads o i len r (all_popped len r b)
  unfolding all_popped
  all_popped_leads = inl refl

  widened_leads : Leads o i len r (widened len r)
  unfolding widened
  widened_leads = inl (with_register_eip Long 0 _ _)

  sign_spread_leads : Leads o i len r (sign_spread len r)
  unfolding sign_spread
  sign_spread_leads = inl (with_register_eip Long 2 _ _)

  left_leads : Leads o i len r (frame_left len r b)
  unfolding frame_left
  left_leads = inl refl

  set_by_leads : Leads o i len r (set_by i len r)
  unfolding set_by
  set_by_leads = inl (destination_eip i.a Byte _ _)

  flags_pushed_leads : Leads o i len r (flags_pushed len r)
  unfolding flags_pushed pushed_number
  flags_pushed_leads = inl refl

  flags_popped_leads : Leads o i len r (flags_popped len r b)
  unfolding flags_popped
  flags_popped_leads = either_leads (is_foreign (top_of_stack r b)) _ _ tt (inl refl)

  flag_leads : (at : ℕ) (value : Bool) → Leads o i len r (flag_made at value len r)
  unfolding flag_made
  flag_leads at value = inl refl

  shared_leads : (q : Option (ℕ × ℕ)) → Leads o i len r (shared i.size q (eip_past len r))
  shared_leads (Some q) = inl (with_halves_eip i.size q.0 q.1 (eip_past len r))
  shared_leads None = tt

  divided_leads : (sign : Bool) → Leads o i len r (divided sign i len r b)
  unfolding divided
  divided_leads sign = shared_leads _

  multiplied_leads : (sign : Bool) → Leads o i len r (multiplied sign i len r b)
  unfolding multiplied
  multiplied_leads sign = inl (with_halves_eip i.size _ _ _)

  multiplied_by_leads : Leads o i len r (multiplied_by i len r b)
  unfolding multiplied_by
  multiplied_by_leads = product_to_leads _ _

  signed_by_leads : (s : Operand) → Leads o i len r (signed_by s i len r b)
  signed_by_leads Absent = multiplied_leads true
  signed_by_leads (Register n) = product_to_leads _ _
  signed_by_leads (Memory a) = product_to_leads _ _
  signed_by_leads (Segment g) = product_to_leads _ _
  signed_by_leads (Control n) = product_to_leads _ _

  signed_multiplied_leads : Leads o i len r (signed_multiplied i len r b)
  unfolding signed_multiplied
  signed_multiplied_leads = signed_by_leads i.b

  counted_leads : IsString o → (rep : Bool) → i.rep ≡ rep → (count : ℕ) (after : Regs) → after.eip ≡ r.eip
      → IsEipAfter o i len r (counted rep count len after).eip
  counted_leads kind false is count after e = inl (ap (λ k. (k + len) % 2 ^ 32) e)
  counted_leads kind true is count after e = by_test (count == 1) where
    by_test : (last : Bool)
        → IsEipAfter o i len r (cond last (eip_past len (with_whole 1 (count - 1) after)) (with_whole 1 (count - 1) after)).eip
    by_test true = inl (ap (λ k. (k + len) % 2 ^ 32) e)
    by_test false = inr (inr ((kind, is), e))

  string_leads : IsString o → (turn o i.size r b).0.eip ≡ r.eip → Leads o i len r (string o i len r b)
  unfolding string
  string_leads is e = either_leads (is_over i r) _ _ (inl refl) (counted_leads is i.rep refl (slice_index r.r 1) (turn o i.size r b).0 e)

module _ (i : Insn) (len : ℕ) (r : Regs) where
  branched_leads : Leads op.Jcc i len r (branched i len r)
  unfolding branched
  branched_leads = by_test (condition i.sel r.flags) where
    by_test : (holds : Bool) → IsEipAfter op.Jcc i len r (cond holds (jumped i len r) (eip_past len r)).eip
    by_test true = inr (inl (tt, refl))
    by_test false = inl refl

  jump_leads : Leads op.Jmp i len r (jump i len r)
  unfolding jump
  jump_leads = inr (inl (tt, refl))

  called_leads : Leads op.Call i len r (called i len r)
  unfolding called
  called_leads = inr (inl (tt, refl))

row_leads : (o : Op) (i : Insn) (len : ℕ) (r : Regs) (b : ℕ → ℕ) → Leads o i len r (row o i len r b)
row_leads op.Add i len r b = arithmetic_leads op.Add i len r b
row_leads op.Or i len r b = arithmetic_leads op.Or i len r b
row_leads op.Adc i len r b = arithmetic_leads op.Adc i len r b
row_leads op.Sbb i len r b = arithmetic_leads op.Sbb i len r b
row_leads op.And i len r b = arithmetic_leads op.And i len r b
row_leads op.Sub i len r b = arithmetic_leads op.Sub i len r b
row_leads op.Xor i len r b = arithmetic_leads op.Xor i len r b
row_leads op.Not i len r b = arithmetic_leads op.Not i len r b
row_leads op.Neg i len r b = arithmetic_leads op.Neg i len r b
row_leads op.Inc i len r b = arithmetic_leads op.Inc i len r b
row_leads op.Dec i len r b = arithmetic_leads op.Dec i len r b
row_leads op.Cmp i len r b = tested_leads op.Cmp i len r b
row_leads op.Test i len r b = tested_leads op.Test i len r b
row_leads op.Rol i len r b = shifted_leads op.Rol i len r b
row_leads op.Ror i len r b = shifted_leads op.Ror i len r b
row_leads op.Shl i len r b = shifted_leads op.Shl i len r b
row_leads op.Shr i len r b = shifted_leads op.Shr i len r b
row_leads op.Sar i len r b = shifted_leads op.Sar i len r b
row_leads op.Mul i len r b = multiplied_leads op.Mul i len r b false
row_leads op.Imul i len r b = signed_multiplied_leads op.Imul i len r b
row_leads op.ImulBy i len r b = multiplied_by_leads op.ImulBy i len r b
row_leads op.Div i len r b = divided_leads op.Div i len r b false
row_leads op.Idiv i len r b = divided_leads op.Idiv i len r b true
row_leads op.Mov i len r b = moved_leads op.Mov i len r b
row_leads op.Movzx i len r b = moved_with_zeros_leads op.Movzx i len r b
row_leads op.Movsx i len r b = moved_with_sign_leads op.Movsx i len r b
row_leads op.Lea i len r b = loaded_address_leads op.Lea i len r b
row_leads op.Xchg i len r b = exchanged_leads op.Xchg i len r b
row_leads op.Push i len r b = pushed_leads op.Push i len r b
row_leads op.Pop i len r b = popped_leads op.Pop i len r b
row_leads op.Pusha i len r b = all_pushed_leads op.Pusha i len r b
row_leads op.Popa i len r b = all_popped_leads op.Popa i len r b
row_leads op.Cwde i len r b = widened_leads op.Cwde i len r b
row_leads op.Cdq i len r b = sign_spread_leads op.Cdq i len r b
row_leads op.Leave i len r b = left_leads op.Leave i len r b
row_leads op.Nop i len r b = inl refl
row_leads op.Jcc i len r b = branched_leads i len r
row_leads op.Setcc i len r b = set_by_leads op.Setcc i len r b
row_leads op.Jmp i len r b = jump_leads i len r
row_leads op.Call i len r b = called_leads i len r
row_leads op.Ud2 i len r b = tt
row_leads op.Movs i len r b = string_leads op.Movs i len r b tt refl
row_leads op.Stos i len r b = string_leads op.Stos i len r b tt refl
row_leads op.Lods i len r b = string_leads op.Lods i len r b tt (with_register_eip i.size 0 _ r)
row_leads op.Clc i len r b = flag_leads op.Clc i len r b CARRY_AT false
row_leads op.Stc i len r b = flag_leads op.Stc i len r b CARRY_AT true
row_leads op.Cld i len r b = flag_leads op.Cld i len r b DIRECTION_AT false
row_leads op.Std i len r b = flag_leads op.Std i len r b DIRECTION_AT true
row_leads op.PushFlags i len r b = flags_pushed_leads op.PushFlags i len r b
row_leads op.PopFlags i len r b = flags_popped_leads op.PopFlags i len r b
row_leads _ i len r b = tt

pub goes_on : EipGoesOn
unfolding effect
goes_on i len r b = row_leads i.op i len r b
