-- What an instruction does once its ranges are translated: its pure effect.
use Rattle.std.proofs.Common.{◌≡◌, ℕ, ◌+◌, ◌/◌, ◌%◌, ◌<◌, Bool, true, false, cond, ◌&&◌, not, ◌==◌, refl, sym, ap, subst, ◌∙◌, Option, Some, None, Result, Ok, Err, arith}
use Rattle.std.specs.Prelude.{nat_lt, nat_le, slice_index}
use Rattle.std.specs.FinMap.{get}
use Rattle.std.proofs.lemmas.Bool.{both_ways, cond-true, le-leb, lt-ltb, or_parts}
use Rattle.guest_ram.specs.Bytes as bytes
use Rattle.ia32_types.specs.declared.size.Size.TheVariants.{Word, Long}
use Rattle.ia32_types.specs.declared.register.Seg.{Seg}
use Rattle.ia32_types.specs.declared.register.Seg.TheVariants.{Es, Ss}
use Rattle.ia32_types.specs.declared.flags.Regs.{Regs}
use Rattle.ia32_types.specs.declared.flags.Flags.{Flags}
use Rattle.ia32_types.specs.declared.stop.Stop.TheVariants as stops
use Rattle.ia32_types.specs.declared.insn.Address.{Address}
use Rattle.ia32_types.specs.declared.insn.Insn.{Insn}
use Rattle.ia32_types.specs.declared.insn.Operand.{Operand}
use Rattle.ia32_types.specs.declared.insn.Operand.TheVariants.{Absent, Register, Memory, Segment, Control}
use Rattle.ia32_types.specs.declared.insn.Op.{Op}
use Rattle.ia32_types.specs.declared.insn.Op.TheVariants as op
use Rattle.ia32_types.specs.Shape.{IsNamed, IsShaped}
use Rattle.ia32_exec.specs.declared.outcome.Outcome as exec
use Rattle.ia32_exec.specs.declared.outcome.Outcome.TheVariants as outcomes
use Rattle.ia32_exec.specs.declared.outcome.Stores.TheVariants.{Nothing, One}
use Rattle.ia32_exec.specs.declared.selectors.Selectors.{Selectors}
use Rattle.ia32_exec.specs.declared.access.Range.{Range}
use Rattle.ia32_exec.specs.declared.access.Ranges.{Ranges}
use Rattle.ia32_exec.specs.Memory.{number_at, store}
use Rattle.ia32_exec.specs.Registers.{register_value, address_of, with_whole}
use Rattle.ia32_exec.specs.Registers as registers
use Rattle.ia32_exec.specs.Ranges.{segment_of, operand_range}
use Rattle.ia32_exec.specs.Operands.{value_of}
use Rattle.ia32_exec.specs.Transfers as transfers
use Rattle.ia32_exec.specs.Selectors as selectors
use Rattle.ia32_exec.specs.Effect as effects_of
use Rattle.ia32_exec.specs.Stack.{stack_of, esp_below, esp_above, is_foreign, pushed_number, flags_pushed, flags_popped}
use Rattle.ia32_exec.specs.Stack as stack
use Rattle.ia32_exec.specs.Effect.{ranges_row, ranges_of, effect}
use Rattle.ia32_types.specs.Places.{is_place}
use Rattle.ia32_exec.specs.UserTransfers.{returned, jumped_through, called_through}
use Rattle.ia32_exec.specs.Selectors.{selector_of}
use Rattle.ia32_exec.specs.UserEffect.{user_row, user_effect}
use Rattle.descriptors.specs.declared.cpu.Cpu.{Cpu}
use Rattle.descriptors.specs.Access.{by_level}
use Rattle.paging.specs.Space.{Space, place, place_by, byte_at, loaded, as_earlier, with_ram, saved}
use Rattle.paging.specs.Work.{Outcome, Work, on_value, ◌>>=◌, gives, unless, reads, reads_earlier, writes}
use Rattle.sys_exec.specs.declared.effect.Refusal.{Refusal}
use Rattle.sys_exec.specs.declared.effect.Refusal.TheVariants as refusal
use Rattle.sys_exec.specs.declared.effect.SysOutcome.{SysOutcome}
use Rattle.sys_exec.specs.declared.effect.SysEffect.TheVariants as effects
use Rattle.sys_exec.specs.Access.{reaching}
use Rattle.sys_exec.specs.Operand.{protection_0, selector_in, reg_at, operand_reached, long_of, pulled, pushed, with_regs, past, past_with, past_push, past_pop, gone_to, next}
use Rattle.sys_exec.specs.Branch as branch
use Rattle.sys_exec.specs.Flags.{with_flags, push_flags, pop_flags}
use Rattle.sys_exec.specs.Iret.{keeps_flags, is_within, new_flags}
use Rattle.sys_exec.specs.Move.{selector_kept, read_seg, push_seg}
use Rattle.sys_exec.specs.Sys.{row, sys_work}
use Rattle.sys_exec.specs.Agreement.{UserFlagsAgree}
use Rattle.step_exec.specs.Users.{user_finished}
use Rattle.step_exec.specs.Plain.{is_null, is_refused, reached, is_in, byte_by, finished, after_reads, after_writes, executed}
use Rattle.host_cpl3.specs.Permit.{permitted_row, permitted}
use Rattle.machine_model.specs.Instruction as instruction
use Rattle.machine_model.specs.Instruction.{done_plainly, instructed}
use Rattle.machine_model.specs.State.{Setting, State}
use Rattle.machine_model.specs.Step.{Completed, after_instruction}
use Rattle.native_steps.proofs.Uses.{reaching_earlier}

-- ---- plain instructions

pub plainly : (cpu : Cpu) (s : Space) (o : exec.Outcome) → done_plainly (finished cpu s o) ≡ user_finished cpu o s
plainly cpu s (outcomes.Done regs stores) = refl
plainly cpu s (outcomes.Raise vector code) = refl
plainly cpu s (outcomes.Stop stop) = refl

plain_row : (o : Op) (g : Selectors) (i : Insn) (len : ℕ) (r : Regs) (b : ℕ → ℕ) → instruction.is_plain o ≡ true
    → user_row o g i len r b ≡ effect i len r b
plain_row op.Return g i len r b e = absurd (both_ways false refl e)
plain_row op.JumpTo g i len r b e = absurd (both_ways false refl e)
plain_row op.CallTo g i len r b e = absurd (both_ways false refl e)
plain_row op.ReadSeg g i len r b e = absurd (both_ways false refl e)
plain_row op.PushSeg g i len r b e = absurd (both_ways false refl e)
plain_row o g i len r b e = refl

pub plain_effect : (g : Selectors) (i : Insn) (len : ℕ) (r : Regs) (b : ℕ → ℕ) → instruction.is_plain i.op ≡ true
    → user_effect g i len r b ≡ effect i len r b
unfolding user_effect
plain_effect g i len r b e = plain_row i.op g i len r b e

executed_is : (i : Insn) (len : ℕ) (cpu : Cpu) (s t u : Space) → is_refused cpu (ranges_of i cpu.regs) ≡ false
    → reached cpu false (ranges_of i cpu.regs).read s ≡ Ok (tt, t) → reached cpu true (ranges_of i cpu.regs).write t ≡ Ok (tt, u)
    → executed i len cpu s ≡ finished cpu u (effect i len cpu.regs (byte_by (ranges_of i cpu.regs).read t u))
unfolding executed
executed_is i len cpu s t u free e g =
    ap (λ (o : Outcome Refusal (Unit {0})). on_value o
    (λ (x : Unit {0}) (w : Space). after_reads i len cpu (reached cpu false (ranges_of i cpu.regs).read w)))
    (cond-true (not (is_refused cpu (ranges_of i cpu.regs))) (Ok (tt, s)) (Err (refusal.Raise 13 0, s)) (ap not free))
    ∙ ap (after_reads i len cpu) e
    ∙ ap (after_writes i len cpu t) g

-- ---- accesses of the others

pushed_is : (cpu : Cpu) (v : ℕ) (s t : Space) → reaching (esp_below 4 cpu.regs) 4 (by_level cpu true) s ≡ Ok (tt, t)
    → pushed cpu v s ≡ Ok (tt, saved t (esp_below 4 cpu.regs) Long v)
unfolding pushed
pushed_is cpu v s t e = ap (λ (o : Outcome Refusal (Unit {0})). on_value o (λ (x : Unit {0}). writes (esp_below 4 cpu.regs) Long v)) e

pulled_is : (cpu : Cpu) (s t : Space) → reaching (stack_of cpu.regs) 4 (by_level cpu false) s ≡ Ok (tt, t)
    → pulled cpu s ≡ Ok (loaded t (stack_of cpu.regs) Long, t)
unfolding pulled
pulled_is cpu s t e = ap (λ (o : Outcome Refusal (Unit {0})). on_value o (λ (x : Unit {0}). reads (stack_of cpu.regs) Long)) e

operand_is : (cpu : Cpu) (a : Address) (len : ℕ) (write : Bool) (s t : Space) → is_null cpu (segment_of a.base) ≡ false
    → reaching (address_of a cpu.regs) len (by_level cpu write) s ≡ Ok (tt, t)
    → operand_reached cpu a len write s ≡ Ok (tt, t)
unfolding operand_reached
operand_is cpu a len write s t free e =
    ap (λ (o : Outcome Refusal (Unit {0})). on_value o (λ (x : Unit {0}). reaching (address_of a cpu.regs) len (by_level cpu write)))
    (cond-true (not (is_null cpu (segment_of a.base))) (Ok (tt, s)) (Err (protection_0, s)) (ap not free))
    ∙ e

-- a number of four bytes that are these
loaded_is : (s : Space) (at : ℕ) (b : ℕ → ℕ) → ((k : ℕ) → k < 4 → byte_at s (at + k) ≡ b (at + k)) → loaded s at Long ≡ number_at b Long at
unfolding loaded
loaded_is s at b h =
    let z : at + 0 ≡ at = omega arith in
    let p : byte_at s at ≡ b at = subst (λ a. byte_at s a ≡ b a) z (h 0 (omega arith)) in
    let q : byte_at s (at + 1) ≡ b (at + 1) = h 1 (omega arith) in
    let r : byte_at s (at + 2) ≡ b (at + 2) = h 2 (omega arith) in
    let t : byte_at s (at + 3) ≡ b (at + 3) = h 3 (omega arith) in
    omega (arith, p, q, r, t)

in_range : (at len k : ℕ) (g : Seg) → k < len → is_in (Some (record { at = at; len = len; seg = g })) (at + k) ≡ true
in_range at len k g lt =
    let low : nat_le at (at + k) ≡ true = le-leb at (at + k) (omega arith) in
    let high : nat_lt (at + k) (at + len) ≡ true = lt-ltb (at + k) (at + len) (omega (arith, lt)) in
    ap (λ b. b && nat_lt (at + k) (at + len)) low ∙ high

-- in the read range
byte_in : (t u : Space) (at len k : ℕ) (g : Seg) → k < len → byte_by (Some (record { at = at; len = len; seg = g })) t u (at + k) ≡ byte_at
    (with_ram t u.ram) (at + k)
byte_in t u at len k g lt = cond-true (is_in (Some (record { at = at; len = len; seg = g })) (at + k)) _ _ (in_range at len k g lt)

read_number : (t : Space) (at : ℕ) (g : Seg)
    → loaded t at Long ≡ number_at (byte_by (Some (record { at = at; len = 4; seg = g })) t t) Long at
read_number t at g = loaded_is t at (byte_by (Some (record { at = at; len = 4; seg = g })) t t) (λ k lt. sym (byte_in t t at 4 k g lt))

earlier_byte : (t u : Space) (a : ℕ) → u.earlier.set ≡ t.set → byte_at (as_earlier u) a ≡ byte_at (with_ram t u.ram) a
unfolding byte_at place
earlier_byte t u a e = ap (λ set. bytes.byte u.ram (place_by (get set (a / 4096)) a)) e

earlier_number : (t u : Space) (at : ℕ) (g : Seg) → u.earlier.set ≡ t.set
    → loaded (as_earlier u) at Long ≡ number_at (byte_by (Some (record { at = at; len = 4; seg = g })) t u) Long at
earlier_number t u at g e = loaded_is (as_earlier u) at (byte_by (Some (record { at = at; len = 4; seg = g })) t u)
    (λ k lt. earlier_byte t u (at + k) e ∙ sym (byte_in t u at 4 k g lt))

named : (k : ℕ) → k < 8 → k % 8 ≡ k
named k lt = omega (arith, lt)

-- the host may do it
abbrev is_granted : {E : Type 0} → Result (Unit {0}) E → Bool
is_granted (Ok x) = true
is_granted (Err e) = false

-- the same space where there is no range
pub nothing_reached : (s t : Space) → ◌≡◌ {A = Outcome Refusal (Unit {0})} (Ok (tt, s)) (Ok (tt, t)) → s ≡ t
nothing_reached s t e = let p : ◌≡◌ {A = Unit {0} × Space} (tt, s) (tt, t) = cc in ap (λ q. q.1) p

abbrev pub IsPopFlags : Op → Type 0
IsPopFlags op.PopFlags = Unit {0}
IsPopFlags _ = ⊥

-- what a selector is
abbrev pub Selects : Selectors → Cpu → Type 0
Selects g cpu = (seg : Seg) → selector_of g seg ≡ selector_in cpu seg

-- without rights
pub record IsUser (cpu : Cpu) : Type 0 where
  pub without : is_within cpu ≡ false
  pub above : (cpu.cpl == 0) ≡ false

module _ (m : Setting) (b : State) (c : Completed) where
  abbrev Comes : Outcome Refusal SysOutcome → Outcome Refusal SysOutcome → Type 0
  Comes x y = after_instruction m b c x ≡ after_instruction m b c y

  same : (x y : Outcome Refusal SysOutcome) → x ≡ y → Comes x y
  same x y e = ap (after_instruction m b c) e

  -- a processor, selectors, and memory before, between and after the ranges
  module _ (flags : UserFlagsAgree) (g : Selectors) (cpu : Cpu) (sel : Selects g cpu) (s t u : Space) where
    abbrev Bytes : Option Range → ℕ → ℕ
    Bytes read = byte_by read t u

    abbrev Free : Ranges → Type 0
    Free ranges = is_refused cpu ranges ≡ false

    -- the ranges of a row are translated
    pub record Are (ranges : Ranges) : Type 0 where
      pub free : is_refused cpu ranges ≡ false
      pub read : reached cpu false ranges.read s ≡ Ok (tt, t)
      pub write : reached cpu true ranges.write t ≡ Ok (tt, u)

    flags_push : (i : Insn) (len : ℕ) → Are (ranges_row op.PushFlags i cpu.regs)
        → Comes (push_flags len cpu s) (user_finished cpu (flags_pushed len cpu.regs) u)
    unfolding push_flags flags_pushed pushed_number
    flags_push i len h =
        let e = subst (λ (x : Space). reaching (esp_below 4 cpu.regs) 4 (by_level cpu true) x ≡ Ok (tt, u))
        (sym (nothing_reached s t h.read)) h.write in
        same _ _ (ap (λ (o : Outcome Refusal (Unit {0})). on_value o (λ (x : Unit {0}). next (past_push cpu len)))
        (pushed_is cpu cpu.regs.flags.bits s u e))

    abbrev taking : ℕ → ℕ → Work Refusal SysOutcome
    taking len v =
        unless (refusal.Stop stops.FlagBits) (keeps_flags v) >>= (λ (x : Unit {0}). next (with_flags (past_pop cpu len) (new_flags cpu v)))

    abbrev popped_to : ℕ → Flags → exec.Outcome
    popped_to len f = outcomes.Done (registers.eip_past len (with_whole 4 (esp_above 4 cpu.regs) (record cpu.regs { flags = f }))) Nothing

    popping : (len : ℕ) (foreign : Bool) (f k : Flags) → f ≡ k
        → on_value (cond (not foreign) (Ok (tt, t)) (Err (refusal.Stop stops.FlagBits, t)))
        (λ (x : Unit {0}). next (with_flags (past_pop cpu len) f))
        ≡ user_finished cpu (cond foreign (outcomes.Stop stops.FlagBits) (popped_to len k)) t
    popping len true f k e = refl
    popping len false f k e = ap (λ (x : Flags). Ok (record { cpu = with_flags (past_pop cpu len) x; effect = effects.Next }, t)) e

    flags_pop : (i : Insn) (len : ℕ) → IsUser cpu → Are (ranges_row op.PopFlags i cpu.regs)
        → Comes (pop_flags len cpu s) (user_finished cpu (flags_popped len cpu.regs (Bytes (ranges_row op.PopFlags i cpu.regs).read)) u)
    unfolding pop_flags flags_popped
    flags_pop i len user h =
        let last : t ≡ u = nothing_reached t u h.write in
        let image : ℕ = loaded t (stack_of cpu.regs) Long in
        let number : image ≡ number_at (Bytes (ranges_row op.PopFlags i cpu.regs).read) Long (stack_of cpu.regs) =
        read_number t (stack_of cpu.regs) Ss
        ∙ ap (λ (x : Space). number_at (byte_by (ranges_row op.PopFlags i cpu.regs).read t x) Long (stack_of cpu.regs)) last in
        let kept : new_flags cpu image ≡ stack.taken cpu.regs.flags image = flags cpu image user.without user.above in
        same _ _
        (ap (λ (o : Outcome Refusal ℕ). on_value o (taking len)) (pulled_is cpu s t h.read)
        ∙ popping len (is_foreign image) (new_flags cpu image) (stack.taken cpu.regs.flags image) kept
        ∙ ap (λ (x : Space). user_finished cpu
        (cond (is_foreign image) (outcomes.Stop stops.FlagBits) (popped_to len (stack.taken cpu.regs.flags image))) x) last
        ∙ ap (λ (v : ℕ). user_finished cpu
        (cond (is_foreign v) (outcomes.Stop stops.FlagBits) (popped_to len (stack.taken cpu.regs.flags v))) u) number)

    return : (i : Insn) (len : ℕ) → Are (ranges_row op.Return i cpu.regs)
        → Comes (branch.return_to i.imm cpu s) (user_finished cpu (returned i cpu.regs (Bytes (ranges_row op.Return i cpu.regs).read)) u)
    unfolding branch.return_to returned
    return i len h =
        let last : t ≡ u = nothing_reached t u h.write in
        let number : loaded t (stack_of cpu.regs) Long ≡ number_at (byte_by (ranges_row op.Return i cpu.regs).read t t) Long
        (stack_of cpu.regs) = read_number t (stack_of cpu.regs) Ss in
        let end : ℕ → Cpu = λ v. with_regs cpu (record (with_whole 4 (esp_above (4 + i.imm) cpu.regs) cpu.regs) { eip = v }) in
        same _ _
        (ap (λ (o : Outcome Refusal ℕ). on_value o (λ (v : ℕ). next (end v))) (pulled_is cpu s t h.read)
        ∙ ap (λ (v : ℕ). Ok (record { cpu = end v; effect = effects.Next }, t)) number
        ∙ ap (λ (x : Space). Ok (
          record {
            cpu = end (number_at (byte_by (ranges_row op.Return i cpu.regs).read t x) Long (stack_of cpu.regs));
            effect = effects.Next;
          },
          x,
        )) last)

    -- nothing to translate
    still : Are (record { read = None; write = None }) → s ≡ u
    still h = nothing_reached s t h.read ∙ nothing_reached t u h.write

    jump : (a : Operand) → IsNamed a → Are (record { read = operand_range a Long cpu.regs; write = None })
        → Comes (branch.jump_to a cpu s)
        (user_finished cpu (cond (is_place a)
        (outcomes.Done (transfers.gone_to (value_of a Long cpu.regs (Bytes (operand_range a Long cpu.regs))) cpu.regs) Nothing)
        (outcomes.Stop stops.Unsupported)) u)
    unfolding branch.jump_to long_of register_value
    jump Absent k h = refl
    jump (Segment x) k h = refl
    jump (Control x) k h = refl
    jump (Register x) k h =
        same _ _
        (ap (λ (v : ℕ). Ok (record { cpu = gone_to cpu (slice_index cpu.regs.r v); effect = effects.Next }, s)) (named x k)
        ∙ ap (λ (w : Space). Ok (record { cpu = gone_to cpu (slice_index cpu.regs.r x); effect = effects.Next }, w)) (still h))
    jump (Memory a) k h =
        let range : Option Range = operand_range (Memory a) Long cpu.regs in
        let last : t ≡ u = nothing_reached t u h.write in
        let free = (or_parts (is_null cpu (segment_of a.base)) false h.free).0 in
        let number : loaded t (address_of a cpu.regs) Long ≡ number_at (byte_by range t t) Long (address_of a cpu.regs) =
        read_number t (address_of a cpu.regs) (segment_of a.base) in
        same _ _
        (ap (λ (o : Outcome Refusal (Unit {0})). on_value (on_value o (λ (x : Unit {0}). reads (address_of a cpu.regs) Long))
        (λ (v : ℕ). next (gone_to cpu v))) (operand_is cpu a 4 false s t free h.read)
        ∙ ap (λ (v : ℕ). Ok (record { cpu = gone_to cpu v; effect = effects.Next }, t)) number
        ∙ ap (λ (x : Space). Ok (
          record {
            cpu = gone_to cpu (number_at (byte_by range t x) Long (address_of a cpu.regs));
            effect = effects.Next;
          },
          x,
        )) last)

    abbrev stack_write : Option Range
    stack_write = Some (record { at = esp_below 4 cpu.regs; len = 4; seg = Ss })

    abbrev call_to : ℕ → ℕ → exec.Outcome
    call_to len v = outcomes.Done (transfers.gone_to v (with_whole 4 (esp_below 4 cpu.regs) cpu.regs))
        (One (store (esp_below 4 cpu.regs) Long (registers.eip_past len cpu.regs).eip))

    through : (a : Address) (len : ℕ) → Are (record { read = operand_range (Memory a) Long cpu.regs; write = stack_write })
        → branch.called_through a len cpu s
        ≡ Ok (
          number_at (Bytes (operand_range (Memory a) Long cpu.regs)) Long (address_of a cpu.regs),
          saved u (esp_below 4 cpu.regs) Long (past cpu len).regs.eip,
        )
    unfolding branch.called_through
    through a len h =
        let free = (or_parts (is_null cpu (segment_of a.base)) _ h.free).0 in
        let earlier = reaching_earlier t u (esp_below 4 cpu.regs) 4 (by_level cpu true) h.write in
        let rest : Unit {0} → Work Refusal ℕ = λ (y : Unit {0}).
        reads_earlier (address_of a cpu.regs) Long
        >>= (λ (v : ℕ). writes (esp_below 4 cpu.regs) Long (past cpu len).regs.eip >>= (λ (z : Unit {0}). gives v))
        in
        ap (λ (o : Outcome Refusal (Unit {0})). on_value o
        (λ (x : Unit {0}). reaching (esp_below 4 cpu.regs) 4 (by_level cpu true) >>= rest)) (operand_is cpu a 4 false s t free h.read)
        ∙ ap (λ (o : Outcome Refusal (Unit {0})). on_value o rest) h.write
        ∙ ap (λ (v : ℕ). Ok (v, saved u (esp_below 4 cpu.regs) Long (past cpu len).regs.eip))
        (earlier_number t u (address_of a cpu.regs) (segment_of a.base) earlier)

    call : (a : Operand) (len : ℕ) → IsNamed a → Are (record { read = operand_range a Long cpu.regs; write = stack_write })
        → Comes (branch.call_to a len cpu s)
        (user_finished cpu (cond (is_place a) (call_to len (value_of a Long cpu.regs (Bytes (operand_range a Long cpu.regs))))
        (outcomes.Stop stops.Unsupported)) u)
    unfolding branch.call_to register_value
    call Absent len k h = refl
    call (Segment x) len k h = refl
    call (Control x) len k h = refl
    call (Register x) len k h =
        let e = subst (λ (w : Space). reaching (esp_below 4 cpu.regs) 4 (by_level cpu true) w ≡ Ok (tt, u))
        (sym (nothing_reached s t h.read)) h.write in
        same _ _
        (ap (λ (o : Outcome Refusal (Unit {0})). on_value o (λ (z : Unit {0}). next (gone_to (past_push cpu len) (reg_at cpu x))))
        (pushed_is cpu (past cpu len).regs.eip s u e)
        ∙ ap (λ (v : ℕ). Ok (
          record { cpu = gone_to (past_push cpu len) (slice_index cpu.regs.r v); effect = effects.Next },
          saved u (esp_below 4 cpu.regs) Long (past cpu len).regs.eip,
        )) (named x k))
    call (Memory a) len k h =
        same _ _ (ap (λ (o : Outcome Refusal ℕ). on_value o (λ (v : ℕ). next (gone_to (past_push cpu len) v))) (through a len h))

    abbrev selector_to : Operand → ℕ → ℕ → exec.Outcome
    selector_to a len v = selectors.selector_to a v len cpu.regs

    kept : (a : Operand) (len v : ℕ) → IsNamed a → Are (record { read = None; write = operand_range a Word cpu.regs })
        → Comes (selector_kept len cpu v a s) (user_finished cpu (selector_to a len v) u)
    unfolding selector_kept address_of
    kept Absent len v k h = refl
    kept (Segment x) len v k h = refl
    kept (Control x) len v k h = refl
    kept (Register x) len v k h =
        same _ _
        (ap (λ (n : ℕ). Ok (record { cpu = past_with cpu len n v; effect = effects.Next }, s)) (named x k)
        ∙ ap (λ (w : Space). Ok (record { cpu = past_with cpu len x v; effect = effects.Next }, w)) (still h))
    kept (Memory a) len v k h =
        let free = h.free in
        let e = subst (λ (w : Space). reaching (address_of a cpu.regs) 2 (by_level cpu true) w ≡ Ok (tt, u))
        (sym (nothing_reached s t h.read)) h.write in
        same _ _
        (ap (λ (o : Outcome Refusal (Unit {0})). on_value o
        (λ (z : Unit {0}). writes (address_of a cpu.regs) Word v >>= (λ (y : Unit {0}). next (past cpu len)))) (operand_is cpu
        a 2 true s u free e))

    selector_read : (from a : Operand) (i : Insn) (len : ℕ) → IsNamed a → i.a ≡ a
        → Are (record { read = None; write = operand_range a Word cpu.regs })
        → Comes (read_seg i from len cpu s) (user_finished cpu (selectors.read_from g from a len cpu.regs) u)
    unfolding read_seg
    selector_read Absent a i len k e h = refl
    selector_read (Register x) a i len k e h = refl
    selector_read (Memory x) a i len k e h = refl
    selector_read (Control x) a i len k e h = refl
    selector_read (Segment x) a i len k e h =
        same _ _ (ap (λ (o : Operand). selector_kept len cpu (selector_in cpu x) o s) e)
        ∙ kept a len (selector_in cpu x) k h
        ∙ ap (λ (v : ℕ). after_instruction m b c (user_finished cpu (selector_to a len v) u)) (sym (sel x))

    selector_push : (a : Operand) (len : ℕ) → Are (record { read = None; write = stack_write })
        → Comes (push_seg a len cpu s) (user_finished cpu (selectors.pushed_from g a (registers.eip_past len cpu.regs)) u)
    unfolding push_seg pushed_number
    selector_push Absent len h = refl
    selector_push (Register x) len h = refl
    selector_push (Memory x) len h = refl
    selector_push (Control x) len h = refl
    selector_push (Segment x) len h =
        let e = subst (λ (w : Space). reaching (esp_below 4 cpu.regs) 4 (by_level cpu true) w ≡ Ok (tt, u))
        (sym (nothing_reached s t h.read)) h.write in
        same _ _
        (ap (λ (o : Outcome Refusal (Unit {0})). on_value o (λ (z : Unit {0}). next (past_push cpu len)))
        (pushed_is cpu (selector_in cpu x) s u e)
        ∙ ap (λ (v : ℕ). user_finished cpu
        (selectors.pushed_from (record { es = v; cs = v; ss = v; ds = v }) (Segment Es) (registers.eip_past len cpu.regs)) u) (sym (sel x)))

    -- the rows that are no plain instructions
    pub row_is : (o : Op) (i : Insn) (len : ℕ) → i.op ≡ o → (IsPopFlags o → IsUser cpu) → IsShaped i → permitted_row o i.imm ≡ Ok tt
        → instruction.is_plain o ≡ false → Are (ranges_row o i cpu.regs)
        → Comes (row o i len cpu s) (user_finished cpu (user_row o g i len cpu.regs (Bytes (ranges_row o i cpu.regs).read)) u)
    unfolding effect returned jumped_through called_through selectors.selector_read selectors.selector_pushed
    row_is op.PushFlags i len e user k p q h = flags_push i len h
        ∙ ap (λ (x : Op). after_instruction m b c (user_finished cpu (effects_of.row x i len cpu.regs (Bytes None)) u)) (sym e)
    row_is op.PopFlags i len e user k p q h = flags_pop i len (user tt) h
        ∙ ap (λ (x : Op). after_instruction m b c
        (user_finished cpu (effects_of.row x i len cpu.regs (Bytes (ranges_row op.PopFlags i cpu.regs).read)) u)) (sym e)
    row_is op.ReadSeg i len e user k p q h = selector_read i.b i.a i len k.named_a refl h
    row_is op.PushSeg i len e user k p q h = selector_push i.a len h
    row_is op.Return i len e user k p q h = return i len h
    row_is op.JumpTo i len e user k p q h = jump i.a k.named_a h
    row_is op.CallTo i len e user k p q h = call i.a len k.named_a h
    row_is op.Cli i len e user k p q h = absurd (both_ways false refl (ap is_granted p))
    row_is op.Sti i len e user k p q h = absurd (both_ways false refl (ap is_granted p))
    row_is op.Hlt i len e user k p q h = absurd (both_ways false refl (ap is_granted p))
    row_is op.Iret i len e user k p q h = absurd (both_ways false refl (ap is_granted p))
    row_is op.ReadControl i len e user k p q h = absurd (both_ways false refl (ap is_granted p))
    row_is op.WriteControl i len e user k p q h = absurd (both_ways false refl (ap is_granted p))
    row_is op.LoadGdt i len e user k p q h = absurd (both_ways false refl (ap is_granted p))
    row_is op.LoadIdt i len e user k p q h = absurd (both_ways false refl (ap is_granted p))
    row_is op.LoadTask i len e user k p q h = absurd (both_ways false refl (ap is_granted p))
    row_is op.DropPage i len e user k p q h = absurd (both_ways false refl (ap is_granted p))
    row_is op.LoadSeg i len e user k p q h = absurd (both_ways false refl (ap is_granted p))
    row_is op.PopSeg i len e user k p q h = absurd (both_ways false refl (ap is_granted p))
    row_is op.FarJump i len e user k p q h = absurd (both_ways false refl (ap is_granted p))
    row_is op.PortIn i len e user k p q h = absurd (both_ways false refl (ap is_granted p))
    row_is op.PortOut i len e user k p q h = absurd (both_ways false refl (ap is_granted p))
    row_is op.Int i len e user k p q h = absurd (both_ways false refl (ap is_granted p))
    row_is op.Int3 i len e user k p q h = absurd (both_ways false refl (ap is_granted p))
    row_is o i len e user k p q h = absurd (both_ways true q refl)

    -- an instruction
    pub instructed_is : (i : Insn) (len : ℕ) → (IsPopFlags i.op → IsUser cpu) → IsShaped i → permitted i ≡ Ok tt
        → Are (ranges_of i cpu.regs)
        → Comes (instructed i len cpu s) (user_finished cpu (user_effect g i len cpu.regs (Bytes (ranges_of i cpu.regs).read)) u)
    unfolding instructed sys_work user_effect permitted ranges_of
    instructed_is i len user k p h = chosen_by (instruction.is_plain i.op) refl
      where
        chosen_by : (plain : Bool) → instruction.is_plain i.op ≡ plain
            → Comes (cond plain (done_plainly (executed i len cpu s)) (row i.op i len cpu s))
            (user_finished cpu (user_effect g i len cpu.regs (Bytes (ranges_of i cpu.regs).read)) u)
        chosen_by true e =
            same _ _
            (ap done_plainly (executed_is i len cpu s t u h.free h.read h.write)
            ∙ plainly cpu u (effect i len cpu.regs (Bytes (ranges_of i cpu.regs).read))
            ∙ ap (λ (o : exec.Outcome). user_finished cpu o u) (sym (plain_effect g i len cpu.regs (Bytes (ranges_of i cpu.regs).read) e)))
        chosen_by false e = row_is i.op i len refl user k p e h
