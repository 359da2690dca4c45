-- An instruction leaves the flags that are the system's own.
use Rattle.std.proofs.Common.{◌≡◌, ℕ, ◌+◌, ◌-◌, ◌*◌, ◌/◌, ◌%◌, ◌^◌, ◌<◌, ◌≤◌, Bool, true, false, cond, refl, sym, ap, subst, ◌∙◌, ◌⊎◌, inl, inr, Option, Some, None, arith}
use Rattle.std.specs.Prelude.{slice_index, nat_lt, bit_and}
use Rattle.ia32_types.specs.declared.size.Size.{Size}
use Rattle.ia32_types.specs.declared.size.Size.TheVariants.{Byte, Word, Long}
use Rattle.ia32_types.specs.declared.flags.Regs.{Regs}
use Rattle.ia32_types.specs.declared.flags.Flags.{Flags}
use Rattle.ia32_types.specs.declared.stop.Stop.TheVariants.{Unsupported, FlagBits}
use Rattle.ia32_types.specs.declared.insn.Insn.{Insn}
use Rattle.ia32_types.specs.declared.insn.Operand.{Operand}
use Rattle.ia32_types.specs.declared.insn.Operand.TheVariants.{Absent, Register, Memory, Segment, Control}
use Rattle.ia32_types.specs.declared.insn.Op.{Op}
use Rattle.ia32_types.specs.declared.insn.Op.TheVariants.{Add, Or, Adc, Sbb, And, Sub, Xor, Cmp, Test, Not, Neg, Mul, Imul, ImulBy, Div, Idiv, Inc, Dec, Rol, Ror, Shl, Shr, Sar, Mov, Movzx, Movsx, Lea, Xchg, Push, Pop, Pusha, Popa, Cwde, Cdq, Leave, Nop, Jcc, Setcc, Jmp, Call, Ud2, Movs, Stos, Lods, Clc, Stc, Cld, Std, PushFlags, PopFlags, ReadSeg, PushSeg, Return, JumpTo, CallTo}
use Rattle.ia32_types.specs.Bits.{worth}
use Rattle.ia32_types.proofs.FlagBits.{put_apart}
use Rattle.ia32_types.specs.declared.flags.TheConstants.{CARRY_AT, PARITY_AT, ADJUST_AT, ZERO_AT, SIGN_AT, DIRECTION_AT, OVERFLOW_AT}
use Rattle.ia32_types.specs.Flags.{flag_put}
use Rattle.ia32_types.specs.Size.{span}
use Rattle.ia32_alu.specs.declared.status.Status.{Status}
use Rattle.ia32_alu.specs.Status.{changed, settled}
use Rattle.ia32_alu.specs.Arithmetic.{alu}
use Rattle.ia32_alu.specs.Shift.{shift}
use Rattle.ia32_alu.specs.Product.{multiply}
use Rattle.ia32_exec.specs.declared.outcome.Outcome.TheVariants.{Done, Stop}
use Rattle.ia32_exec.specs.declared.outcome.Stores.{Stores}
use Rattle.ia32_exec.specs.declared.outcome.Stores.TheVariants.{Nothing}
use Rattle.ia32_exec.specs.declared.selectors.Selectors.{Selectors}
use Rattle.ia32_exec.specs.Registers.{register_value, with_register, with_whole, eip_past}
use Rattle.ia32_exec.specs.Operands.{value_of, to_destination, kept_in, done}
use Rattle.ia32_exec.specs.Arithmetic.{flagged, computed, count_of, arithmetic, tested, shifted, with_halves, upper, multiplied, signed_by, signed_multiplied, product_to, multiplied_by, shared, divided}
use Rattle.ia32_exec.specs.Moves.{moved, moved_with_zeros, moved_with_sign, loaded_address, exchanged, widened, sign_spread}
use Rattle.ia32_exec.specs.Stack.{is_foreign, taken, top_of_stack, esp_above, pushed, pushed_number, popped, all_pushed, all_popped, frame_left, called, flags_pushed, flags_popped}
use Rattle.ia32_exec.specs.Control.{condition, jump, jumped, branched, set_by, flag_made}
use Rattle.ia32_exec.specs.Strings.{is_over, string, turn, moved_on, counted}
use Rattle.ia32_exec.specs.Effect.{row, effect}
use Rattle.ia32_types.specs.Places.{is_place}
use Rattle.ia32_exec.specs.UserTransfers.{returned, jumped_through, called_through}
use Rattle.ia32_exec.specs.Selectors.{selector_to, read_from, pushed_from, selector_read, selector_pushed}
use Rattle.ia32_exec.specs.UserEffect.{user_row, user_effect}
use Rattle.ia32_exec.specs.FlagsAfter.{AreSet, AreKept, Leaves, SystemFlagsStay, InsensitiveStay}

-- ---- IF, IOPL, and the bits that the profile never sets

put_set : (f : Flags) (at : ℕ) (b : Bool) → at < 32 → bit_and (1 * 2 ^ at % 2 ^ 32) 2 ≡ 0 → bit_and (1 * 2 ^ at % 2 ^ 32) 0xFFFF_C128 ≡ 0
    → AreSet f (flag_put f at b)
put_set f at b h e k = record { fixed = put_apart f.bits at 2 b h e; others = put_apart f.bits at 0xFFFF_C128 b h k }

kept_same : (f : Flags) → AreKept f f
kept_same f = record { interrupt = refl; level = refl; set = record { fixed = refl; others = refl } }

kept_on : (f g h : Flags) → AreKept f g → AreKept g h → AreKept f h
kept_on f g h p q = record {
  interrupt = q.interrupt ∙ p.interrupt;
  level = q.level ∙ p.level;
  set = record { fixed = q.set.fixed ∙ p.set.fixed; others = q.set.others ∙ p.set.others };
}

small : (b : Bool) → worth b ≤ 1
small true = omega arith
small false = omega arith

kept_0 : (f : Flags) (b : Bool) → AreKept f (flag_put f 0 b)
kept_0 f b = let s =
    small b in record { interrupt = omega (arith, s); level = omega (arith, s); set = put_set f 0 b (omega arith) refl refl }

kept_2 : (f : Flags) (b : Bool) → AreKept f (flag_put f 2 b)
kept_2 f b = let s =
    small b in record { interrupt = omega (arith, s); level = omega (arith, s); set = put_set f 2 b (omega arith) refl refl }

kept_4 : (f : Flags) (b : Bool) → AreKept f (flag_put f 4 b)
kept_4 f b = let s =
    small b in record { interrupt = omega (arith, s); level = omega (arith, s); set = put_set f 4 b (omega arith) refl refl }

kept_6 : (f : Flags) (b : Bool) → AreKept f (flag_put f 6 b)
kept_6 f b = let s =
    small b in record { interrupt = omega (arith, s); level = omega (arith, s); set = put_set f 6 b (omega arith) refl refl }

kept_7 : (f : Flags) (b : Bool) → AreKept f (flag_put f 7 b)
kept_7 f b = let s =
    small b in record { interrupt = omega (arith, s); level = omega (arith, s); set = put_set f 7 b (omega arith) refl refl }

kept_10 : (f : Flags) (b : Bool) → AreKept f (flag_put f 10 b)
kept_10 f b = let s =
    small b in record { interrupt = omega (arith, s); level = omega (arith, s); set = put_set f 10 b (omega arith) refl refl }

kept_11 : (f : Flags) (b : Bool) → AreKept f (flag_put f 11 b)
kept_11 f b = let s =
    small b in record { interrupt = omega (arith, s); level = omega (arith, s); set = put_set f 11 b (omega arith) refl refl }

change_kept : (f : Flags) (at : ℕ) (b : Option Bool) → ((v : Bool) → AreKept f (flag_put f at v)) → AreKept f (changed f at b)
unfolding changed
change_kept f at None h = kept_same f
change_kept f at (Some v) h = h v

settled_kept : (s : Status) (f : Flags) → AreKept f (settled s f)
unfolding settled
settled_kept s f =
    let c = changed f CARRY_AT s.carry in
    let p = changed c PARITY_AT s.parity in
    let a = changed p ADJUST_AT s.adjust in
    let z = changed a ZERO_AT s.zero in
    let n = changed z SIGN_AT s.sign in
    kept_on f c _ (change_kept f CARRY_AT s.carry (kept_0 f))
    (kept_on c p _ (change_kept c PARITY_AT s.parity (kept_2 c))
    (kept_on p a _ (change_kept p ADJUST_AT s.adjust (kept_4 p))
    (kept_on a z _ (change_kept a ZERO_AT s.zero (kept_6 a))
    (kept_on z n _ (change_kept z SIGN_AT s.sign (kept_7 z))
    (change_kept n OVERFLOW_AT s.overflow (kept_11 n))))))

taken_kept : (f : Flags) (v : ℕ) → AreKept f (taken f v)
unfolding taken
taken_kept f v =
    kept_on f _ _ (kept_0 f _)
    (kept_on _ _ _ (kept_2 _ _)
    (kept_on _ _ _ (kept_4 _ _) (kept_on _ _ _ (kept_6 _ _) (kept_on _ _ _ (kept_7 _ _) (kept_on _ _ _ (kept_10 _ _) (kept_11 _ _))))))

alu_kept : (o : Op) (s : Size) (a b : ℕ) (f : Flags) → AreKept f (alu o s a b f).1
unfolding alu
alu_kept o s a b f = settled_kept _ f

shift_kept : (o : Op) (s : Size) (a b : ℕ) (f : Flags) → AreKept f (shift o s a b f).1
unfolding shift
shift_kept o s a b f = settled_kept _ f

multiply_kept : (sign : Bool) (s : Size) (a b : ℕ) (f : Flags) → AreKept f (multiply sign s a b f).1
unfolding multiply
multiply_kept sign s a b f = settled_kept _ f

-- ---- registers

-- the same flags
pub record IsApart (r n : Regs) : Type 0 where
  pub flags : n.flags ≡ r.flags

apart_same : (r : Regs) → IsApart r r
apart_same r = record { flags = refl }

apart_choice : (c : Bool) (r x y : Regs) → IsApart r x → IsApart r y → IsApart r (cond c x y)
apart_choice true r x y h k = h
apart_choice false r x y h k = k

apart_on : (r n p : Regs) → IsApart r n → IsApart n p → IsApart r p
apart_on r n p h k = record { flags = k.flags ∙ h.flags }

apart_register : (s : Size) (n v : ℕ) (r : Regs) → IsApart r (with_register s n v r)
unfolding with_register
apart_register Byte n v r = apart_choice (nat_lt n 4) r _ _ (record { flags = refl }) (record { flags = refl })
apart_register Word n v r = record { flags = refl }
apart_register Long n v r = record { flags = refl }

apart_destination : (o : Operand) (s : Size) (v : ℕ) (r : Regs) → IsApart r (to_destination o s v r).0
apart_destination Absent s v r = apart_same r
apart_destination (Register n) s v r = apart_register s n v r
apart_destination (Memory a) s v r = apart_same r
apart_destination (Segment g) s v r = apart_same r
apart_destination (Control n) s v r = apart_same r

apart_kept : (o : Operand) (s : Size) (v : ℕ) (r : Regs) → IsApart r (kept_in o s v r)
apart_kept Absent s v r = apart_same r
apart_kept (Register n) s v r = apart_register s n v r
apart_kept (Memory a) s v r = apart_same r
apart_kept (Segment g) s v r = apart_same r
apart_kept (Control n) s v r = apart_same r

apart_halves : (s : Size) (below above : ℕ) (r : Regs) → IsApart r (with_halves s below above r)
apart_halves s below above r =
    apart_on r (with_register s 0 below r) _ (apart_register s 0 below r) (apart_register s (upper s) above (with_register s 0 below r))

-- ---- what is left

module _ (i : Insn) (len : ℕ) (r : Regs) where
  -- past it, with registers
  next_with : (f : Flags) (n : Regs) → AreKept r.flags f → IsApart (eip_past len (record r { flags = f })) n → AreKept r.flags n.flags
  next_with f n k a = subst (AreKept r.flags) (sym a.flags) k

  next : (n : Regs) → IsApart (eip_past len r) n → AreKept r.flags n.flags
  next n a = next_with r.flags n (kept_same r.flags) a

  of_arithmetic : (b : ℕ → ℕ) → Leaves r (arithmetic i len r b)
  unfolding arithmetic
  of_arithmetic b = next_with (computed i r b).1 _ (alu_kept i.op i.size _ _ r.flags)
      (apart_destination i.a i.size (computed i r b).0 (flagged len (computed i r b).1 r))

  of_tested : (b : ℕ → ℕ) → Leaves r (tested i len r b)
  unfolding tested
  of_tested b = next_with (computed i r b).1 _ (alu_kept i.op i.size _ _ r.flags) (apart_same _)

  of_shifted : (b : ℕ → ℕ) → Leaves r (shifted i len r b)
  unfolding shifted
  of_shifted b =
      let o = shift i.op i.size (value_of i.a i.size r b) (count_of i.b i.imm r) r.flags in
      next_with o.1 _ (shift_kept i.op i.size _ _ r.flags) (apart_destination i.a i.size o.0 (flagged len o.1 r))

  of_multiplied : (sign : Bool) (b : ℕ → ℕ) → Leaves r (multiplied sign i len r b)
  unfolding multiplied
  of_multiplied sign b =
      let p = multiply sign i.size (register_value i.size 0 r) (value_of i.a i.size r b) r.flags in
      next_with p.1 _ (multiply_kept sign i.size _ _ r.flags)
      (apart_halves i.size (p.0 % span i.size) (p.0 / span i.size) (flagged len p.1 r))

  of_product : (x y : ℕ) → Leaves r (product_to i x y len r)
  unfolding product_to
  of_product x y =
      let p = multiply true i.size x y r.flags in
      next_with p.1 _ (multiply_kept true i.size x y r.flags) (apart_kept i.a i.size (p.0 % span i.size) (flagged len p.1 r))

  of_signed : (o : Operand) (b : ℕ → ℕ) → Leaves r (signed_by o i len r b)
  of_signed Absent b = of_multiplied true b
  of_signed (Register n) b = of_product _ _
  of_signed (Memory a) b = of_product _ _
  of_signed (Segment g) b = of_product _ _
  of_signed (Control n) b = of_product _ _

  of_shared : (s : Size) (q : Option (ℕ × ℕ)) → Leaves r (shared s q (eip_past len r))
  of_shared s None = tt
  of_shared s (Some q) = next _ (apart_halves s q.0 q.1 (eip_past len r))

  of_divided : (sign : Bool) (b : ℕ → ℕ) → Leaves r (divided sign i len r b)
  unfolding divided
  of_divided sign b = of_shared i.size _

  of_destination : (o : Operand) (s : Size) (v : ℕ) (n : Regs) → IsApart (eip_past len r) n → Leaves r (done (to_destination o s v n))
  of_destination o s v n a = next _ (apart_on (eip_past len r) n _ a (apart_destination o s v n))

  of_kept : (o : Operand) (s : Size) (v : ℕ) (n : Regs) (ws : Stores) → IsApart (eip_past len r) n → Leaves r (Done (kept_in o s v n) ws)
  of_kept o s v n ws a = next _ (apart_on (eip_past len r) n _ a (apart_kept o s v n))

  of_flag : (at : ℕ) (b : Bool) → ((v : Bool) → AreKept r.flags (flag_put r.flags at v)) → Leaves r (flag_made at b len r)
  unfolding flag_made
  of_flag at b k = next_with (flag_put r.flags at b) _ (k b) (apart_same _)

  of_branch : (c : Bool) (ws : Stores) → Leaves r (Done (cond c (jumped i len r) (eip_past len r)) ws)
  of_branch true ws = kept_same r.flags
  of_branch false ws = kept_same r.flags

  of_flags : (c : Bool) (v : ℕ)
      → Leaves r (cond c (Stop FlagBits)
      (Done (eip_past len (with_whole 4 (esp_above 4 r) (record r { flags = taken r.flags v }))) Nothing))
  of_flags true v = tt
  of_flags false v = taken_kept r.flags v

  -- one turn
  of_counted : (rep : Bool) (n : Regs) (ws : Stores) → IsApart r n → Leaves r (Done (counted rep (slice_index r.r 1) len n) ws)
  of_counted false n ws a = subst (AreKept r.flags) (sym a.flags) (kept_same r.flags)
  of_counted true n ws a = choice (Rattle.std.proofs.Common.eqb (slice_index r.r 1) 1)
    where
      choice : (c : Bool) → Leaves r
          (Done (cond c (eip_past len (with_whole 1 (slice_index r.r 1 - 1) n)) (with_whole 1 (slice_index r.r 1 - 1) n)) ws)
      choice true = subst (AreKept r.flags) (sym a.flags) (kept_same r.flags)
      choice false = subst (AreKept r.flags) (sym a.flags) (kept_same r.flags)

  of_over : (c : Bool) (n : Regs) (ws vs : Stores) → Leaves r (Done n ws) → Leaves r (cond c (Done (eip_past len r) vs) (Done n ws))
  of_over true n ws vs h = next _ (apart_same _)
  of_over false n ws vs h = h

  turned_lods : (v : ℕ) → IsApart r (moved_on 6 i.size (with_register i.size 0 v r))
  turned_lods v = apart_on r (with_register i.size 0 v r) _ (apart_register i.size 0 v r) (record { flags = refl })

  row_leaves : (o : Op) (b : ℕ → ℕ) → Leaves r (row o i len r b)
  unfolding signed_multiplied multiplied_by moved moved_with_zeros moved_with_sign loaded_address exchanged pushed pushed_number popped
      all_pushed all_popped widened sign_spread frame_left set_by jump branched called flags_pushed flags_popped string
  row_leaves Add b = of_arithmetic b
  row_leaves Or b = of_arithmetic b
  row_leaves Adc b = of_arithmetic b
  row_leaves Sbb b = of_arithmetic b
  row_leaves And b = of_arithmetic b
  row_leaves Sub b = of_arithmetic b
  row_leaves Xor b = of_arithmetic b
  row_leaves Not b = of_arithmetic b
  row_leaves Neg b = of_arithmetic b
  row_leaves Inc b = of_arithmetic b
  row_leaves Dec b = of_arithmetic b
  row_leaves Cmp b = of_tested b
  row_leaves Test b = of_tested b
  row_leaves Rol b = of_shifted b
  row_leaves Ror b = of_shifted b
  row_leaves Shl b = of_shifted b
  row_leaves Shr b = of_shifted b
  row_leaves Sar b = of_shifted b
  row_leaves Mul b = of_multiplied false b
  row_leaves Imul b = of_signed i.b b
  row_leaves ImulBy b = of_product _ _
  row_leaves Div b = of_divided false b
  row_leaves Idiv b = of_divided true b
  row_leaves Mov b = of_destination i.a i.size _ (eip_past len r) (apart_same _)
  row_leaves Movzx b = of_kept i.a Long _ (eip_past len r) Nothing (apart_same _)
  row_leaves Movsx b = of_kept i.a Long _ (eip_past len r) Nothing (apart_same _)
  row_leaves Lea b = of_kept i.a Long _ (eip_past len r) Nothing (apart_same _)
  row_leaves Xchg b = of_kept i.b i.size _ _ Nothing (apart_destination i.a i.size _ (eip_past len r))
  row_leaves Push b = kept_same r.flags
  row_leaves Pop b = of_destination i.a Long _ _ (record { flags = refl })
  row_leaves Pusha b = kept_same r.flags
  row_leaves Popa b = kept_same r.flags
  row_leaves Cwde b = next _ (apart_register Long 0 _ (eip_past len r))
  row_leaves Cdq b = next _ (apart_register Long 2 _ (eip_past len r))
  row_leaves Leave b = kept_same r.flags
  row_leaves Nop b = next _ (apart_same _)
  row_leaves Setcc b = of_destination i.a Byte _ (eip_past len r) (apart_same _)
  row_leaves Movs b =
      of_over (is_over i r) _ (turn Movs i.size r b).1 Nothing (of_counted i.rep _ (turn Movs i.size r b).1 (record { flags = refl }))
  row_leaves Stos b =
      of_over (is_over i r) _ (turn Stos i.size r b).1 Nothing (of_counted i.rep _ (turn Stos i.size r b).1 (record { flags = refl }))
  row_leaves Lods b = of_over (is_over i r) _ Nothing Nothing (of_counted i.rep _ Nothing (turned_lods _))
  row_leaves Clc b = of_flag CARRY_AT false (kept_0 r.flags)
  row_leaves Stc b = of_flag CARRY_AT true (kept_0 r.flags)
  row_leaves Cld b = of_flag DIRECTION_AT false (kept_10 r.flags)
  row_leaves Std b = of_flag DIRECTION_AT true (kept_10 r.flags)
  row_leaves PushFlags b = kept_same r.flags
  row_leaves PopFlags b = of_flags (is_foreign (top_of_stack r b)) (top_of_stack r b)
  row_leaves Jcc b = of_branch (condition i.sel r.flags) Nothing
  row_leaves Jmp b = kept_same r.flags
  row_leaves Call b = kept_same r.flags
  row_leaves Ud2 b = tt
  row_leaves o b = tt

  effect_leaves : (b : ℕ → ℕ) → Leaves r (effect i len r b)
  unfolding effect
  effect_leaves b = row_leaves i.op b

  if_place : (c : Bool) (n : Regs) (ws : Stores) → AreKept r.flags n.flags → Leaves r (cond c (Done n ws) (Stop Unsupported))
  if_place true n ws h = h
  if_place false n ws h = tt

  of_selector : (a : Operand) (v : ℕ) → Leaves r (selector_to a v len r)
  of_selector Absent v = tt
  of_selector (Register n) v = kept_same r.flags
  of_selector (Memory x) v = kept_same r.flags
  of_selector (Segment g) v = tt
  of_selector (Control n) v = tt

  of_read : (g : Selectors) (from a : Operand) → Leaves r (read_from g from a len r)
  of_read g Absent a = tt
  of_read g (Register n) a = tt
  of_read g (Memory x) a = tt
  of_read g (Segment s) a = of_selector a _
  of_read g (Control n) a = tt

  of_pushed : (g : Selectors) (from : Operand) → Leaves r (pushed_from g from (eip_past len r))
  unfolding pushed_number
  of_pushed g Absent = tt
  of_pushed g (Register n) = tt
  of_pushed g (Memory x) = tt
  of_pushed g (Segment s) = kept_same r.flags
  of_pushed g (Control n) = tt

  user_leaves : (o : Op) (g : Selectors) (b : ℕ → ℕ) → Leaves r (user_row o g i len r b)
  unfolding returned jumped_through called_through selector_read selector_pushed
  user_leaves Return g b = kept_same r.flags
  user_leaves JumpTo g b = if_place (is_place i.a) _ _ (kept_same r.flags)
  user_leaves CallTo g b = if_place (is_place i.a) _ _ (kept_same r.flags)
  user_leaves ReadSeg g b = of_read g i.b i.a
  user_leaves PushSeg g b = of_pushed g i.a
  user_leaves o g b = effect_leaves b

  flags_left : (g : Selectors) (b : ℕ → ℕ) → Leaves r (user_effect g i len r b)
  unfolding user_effect
  flags_left g b = user_leaves i.op g b

pub flags_stay : SystemFlagsStay
flags_stay i len r g b = flags_left i len r g b

pub insensitive_stay : InsensitiveStay
insensitive_stay = record { effects = effect_leaves; images = taken_kept }
