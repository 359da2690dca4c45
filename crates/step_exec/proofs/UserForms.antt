-- Sensitive instructions that user code does by itself have the form of plain ones.
use Rattle.std.proofs.Common.{◌≡◌, ℕ, ◌+◌, ◌%◌, Bool, true, false, not, cond, Some, Ok, Err, refl, sym, ap, ◌∙◌, arith}
use Rattle.std.specs.Prelude.{slice_index}
use Rattle.ia32_types.specs.declared.flags.Flags.{Flags}
use Rattle.ia32_types.specs.declared.flags.Regs.{Regs}
use Rattle.ia32_types.specs.declared.size.Size.{Size}
use Rattle.ia32_types.specs.declared.size.Size.TheVariants.{Word, Long}
use Rattle.ia32_types.specs.declared.register.Seg.{Seg}
use Rattle.ia32_types.specs.declared.register.Seg.TheVariants.{Es, Cs, Ss, Ds}
use Rattle.ia32_types.specs.declared.stop.Stop.TheVariants as stops
use Rattle.ia32_types.specs.declared.insn.Insn.{Insn}
use Rattle.ia32_types.specs.declared.insn.Operand.{Operand}
use Rattle.ia32_types.specs.declared.insn.Operand.TheVariants.{Absent, Register, Memory, Segment, Control}
use Rattle.ia32_types.specs.declared.insn.Op.{Op}
use Rattle.ia32_types.specs.declared.insn.Op.TheVariants as op
use Rattle.ia32_types.specs.Shape.{IsNamed, IsShaped}
use Rattle.ia32_exec.specs.declared.outcome.Outcome.TheVariants as outcomes
use Rattle.ia32_exec.specs.declared.outcome.Stores.TheVariants.{Nothing, One}
use Rattle.ia32_exec.specs.declared.access.Range.{Range}
use Rattle.ia32_exec.specs.Memory.{store, number_at}
use Rattle.ia32_exec.specs.Ranges.{segment_of, operand_range}
use Rattle.ia32_exec.specs.Registers.{register_value, with_whole, eip_past, address_of}
use Rattle.ia32_exec.specs.Operands.{value_of}
use Rattle.ia32_exec.specs.Stack.{stack_of, esp_below, esp_above, top_of_stack, is_foreign, taken, pushed_number, flags_pushed, flags_popped}
use Rattle.ia32_types.specs.Places.{is_place, IsPlace, IsSegment, OperandsFit}
use Rattle.ia32_exec.specs.Transfers.{gone_to}
use Rattle.ia32_exec.specs.UserTransfers.{returned, jumped_through, called_through}
use Rattle.ia32_exec.specs.Selectors.{selector_of, selector_to, read_from, pushed_from, selector_read, selector_pushed}
use Rattle.ia32_exec.specs.Effect as plain
use Rattle.ia32_exec.specs.Effect.{effect, ranges_of, ranges_row, on_stack}
use Rattle.ia32_exec.specs.UserEffect.{user_row, user_effect}
use Rattle.descriptors.specs.Access as accesses
use Rattle.descriptors.specs.Access.{met, by_level}
use Rattle.descriptors.specs.declared.cpu.Cpu.{Cpu}
use Rattle.paging.specs.declared.entry.Access.{Access}
use Rattle.paging.specs.declared.entry.Touch.{Touch}
use Rattle.paging.specs.declared.entry.Touch.TheVariants.{Ready, Fault, Stop}
use Rattle.paging.specs.Space.{Space, loaded, saved, earlier_of}
use Rattle.paging.specs.Uses.{uses}
use Rattle.paging.specs.Work.{Outcome, Work, on_value, ◌>>=◌, gives, unless, reads, reads_earlier, writes}
use Rattle.sys_exec.specs.declared.effect.Refusal.{Refusal}
use Rattle.sys_exec.specs.declared.effect.Refusal.TheVariants as refusal
use Rattle.sys_exec.specs.declared.effect.SysOutcome.{SysOutcome}
use Rattle.sys_exec.specs.Access.{denials, reaching}
use Rattle.sys_exec.specs.Iret.{new_flags}
use Rattle.sys_exec.specs.Flags.{push_flags, pop_flags, with_flags}
use Rattle.sys_exec.specs.Move.{read_seg, selector_kept, push_seg}
use Rattle.sys_exec.specs.Branch.{return_to, jump_to, call_to}
use Rattle.sys_exec.specs.Branch as branch
use Rattle.sys_exec.specs.Operand.{selector_in, operand_reached, long_of, pulled, pushed, with_regs, past, past_pop, next}
use Rattle.sys_exec.specs.Sys as sys
use Rattle.sys_exec.specs.Sys.{sys_work}
use Rattle.sys_exec.proofs.Rows.{user_flags_agree}
use Rattle.step_exec.specs.Plain.{is_null, byte_by}
use Rattle.step_exec.specs.Users.{selectors_of, user_finished, user_form, user_executed, IsUserSite, IsUser, HasUserForm}
use Rattle.step_exec.proofs.UserReads.{number_read, uses_earlier, earlier_read}

-- ---- accesses, one after the other

after_read : (o : Outcome Refusal (Unit {0})) (at : ℕ) (h : Space → Outcome Refusal SysOutcome) (k : ℕ → Work Refusal SysOutcome)
    → ((s : Space) → k (loaded s at Long) s ≡ h s)
    → on_value (on_value o (λ _. reads at Long)) k ≡ on_value o (λ _. h)
after_read (Ok p) at h k e = e p.1
after_read (Err x) at h k e = refl

after_write : (o : Outcome Refusal (Unit {0})) (at : ℕ) (size : Size) (v : ℕ) (h : Space → Outcome Refusal SysOutcome)
    (k : Work Refusal SysOutcome) → ((s : Space) → k (saved s at size v) ≡ h s)
    → on_value (on_value o (λ _. writes at size v)) (λ _. k) ≡ on_value o (λ _. h)
after_write (Ok p) at size v h k e = e p.1
after_write (Err x) at size v h k e = refl

-- a segment that isn't null
nonnull : (n : Bool) (s : Space) (rest : Space → Outcome Refusal SysOutcome) → n ≡ false → on_value (unless (refusal.Raise 13 0) (not n) s)
    (λ _. rest) ≡ rest s
nonnull true s rest e = absurd cc
nonnull false s rest e = refl

same_selector : (cpu : Cpu) (g : Seg) → selector_of (selectors_of cpu) g ≡ selector_in cpu g
same_selector cpu Es = refl
same_selector cpu Cs = refl
same_selector cpu Ss = refl
same_selector cpu Ds = refl

-- an operand in memory, whose segment is tested first
memory_read : (n : Bool) (s : Space) (at : ℕ) (access : Access) (h : Space → Outcome Refusal SysOutcome) (k : ℕ → Work Refusal SysOutcome)
    → ((t : Space) → k (loaded t at Long) t ≡ h t)
    → on_value (on_value (on_value (unless (refusal.Raise 13 0) (not n) s) (λ _. reaching at 4 access)) (λ _. reads at Long)) k
    ≡ on_value (unless (refusal.Raise 13 0) (not n) s) (λ _ t. on_value (reaching at 4 access t) (λ _. h))
memory_read true s at access h k e = refl
memory_read false s at access h k e = after_read (reaching at 4 access s) at h k e

memory_write : (n : Bool) (s : Space) (at : ℕ) (access : Access) (v : ℕ) (h : Space → Outcome Refusal SysOutcome)
    (k : Work Refusal SysOutcome) → ((t : Space) → k (saved t at Word v) ≡ h t)
    → on_value (on_value (unless (refusal.Raise 13 0) (not n) s) (λ _. reaching at 2 access))
    (λ _. (writes {E = Refusal} at Word v >>= (λ _. k)))
    ≡ on_value (unless (refusal.Raise 13 0) (not n) s) (λ _ t. on_value (reaching at 2 access t) (λ _. h))
memory_write true s at access v h k e = refl
memory_write false s at access v h k e = by_outcome (reaching at 2 access s)
  where
    by_outcome : (o : Outcome Refusal (Unit {0})) → on_value o (λ _. (writes {E = Refusal} at Word v >>= (λ _. k))) ≡ on_value o (λ _. h)
    by_outcome (Ok p) = e p.1
    by_outcome (Err x) = refl

-- ---- the rows

-- a number of 4 bytes on the stack
top_read : (cpu : Cpu) (s : Space) → top_of_stack cpu.regs (byte_by (on_stack (stack_of cpu.regs) 4) s s) ≡ loaded s
    (stack_of cpu.regs) Long
top_read cpu s = number_read (record { at = stack_of cpu.regs; len = 4; seg = Ss }) s s refl

ret_form : (insn : Insn) (cpu : Cpu) (s : Space) → is_null cpu Ss ≡ false
    → return_to insn.imm cpu s ≡ user_form cpu (plain.reads (on_stack (stack_of cpu.regs) 4)) (returned insn cpu.regs) s
unfolding return_to pulled returned
ret_form insn cpu s null =
    let r = cpu.regs in
    let h : Space → Outcome Refusal SysOutcome = λ t. user_finished cpu (returned insn r (byte_by (on_stack (stack_of r) 4) t t)) t in
    after_read (reaching (stack_of r) 4 (by_level cpu false) s) (stack_of r) h
    (λ v. next (with_regs cpu (record (with_whole 4 (esp_above (4 + insn.imm) r) r) { eip = v })))
    (λ t. ap (λ v. next (with_regs cpu (record (with_whole 4 (esp_above (4 + insn.imm) r) r) { eip = v })) t) (sym (top_read cpu t)))
    ∙ sym (nonnull (is_null cpu Ss) s (λ t. on_value (reaching (stack_of r) 4 (by_level cpu false) t) (λ _. h)) null)

jump_form : (o : Operand) (cpu : Cpu) (s : Space) → IsNamed o → jump_to o cpu s
    ≡ user_form cpu (plain.reads (operand_range o Long cpu.regs))
    (λ b. cond (is_place o) (outcomes.Done (gone_to (value_of o Long cpu.regs b) cpu.regs) Nothing) (outcomes.Stop stops.Unsupported)) s
unfolding jump_to long_of operand_reached register_value
jump_form Absent cpu s n = refl
jump_form (Segment g) cpu s n = refl
jump_form (Control k) cpu s n = refl
jump_form (Register k) cpu s n =
    ap (λ j. next (with_regs cpu (record cpu.regs { eip = slice_index cpu.regs.r j })) s) (let e : k % 8 ≡ k = omega arith in e)
jump_form (Memory a) cpu s n =
    let r = cpu.regs in
    let at : ℕ = address_of a r in
    let range : Range = record { at = at; len = 4; seg = segment_of a.base } in
    let k : ℕ → Work Refusal SysOutcome = λ v. next (with_regs cpu (record r { eip = v })) in
    memory_read (is_null cpu (segment_of a.base)) s at (by_level cpu false)
    (λ t. user_finished cpu (outcomes.Done (gone_to (value_of (Memory a) Long r (byte_by (Some range) t t)) r) Nothing) t) k
    (λ t. ap (λ v. k v t) (sym (number_read range t t refl)))

-- a number of 4 bytes is pushed
push_done : (cpu : Cpu) (s : Space) (v : ℕ) (after : Regs) → is_null cpu Ss ≡ false
    → (pushed cpu v >>= (λ _. next (with_regs cpu after))) s
    ≡ user_form cpu (plain.writes (on_stack (esp_below 4 cpu.regs) 4))
    (λ b. outcomes.Done after (One (store (esp_below 4 cpu.regs) Long v))) s
unfolding pushed
push_done cpu s v after null =
    let at : ℕ = esp_below 4 cpu.regs in
    let h : Space → Outcome Refusal SysOutcome = λ t. user_finished cpu (outcomes.Done after (One (store at Long v))) t in
    after_write (reaching at 4 (by_level cpu true) s) at Long v h (next (with_regs cpu after)) (λ t. refl)
    ∙ sym (nonnull (is_null cpu Ss) s (λ t. on_value (reaching at 4 (by_level cpu true) t) (λ _. h)) null)

pushf_form : (len : ℕ) (cpu : Cpu) (s : Space) → is_null cpu Ss ≡ false
    → push_flags len cpu s ≡ user_form cpu (plain.writes (on_stack (esp_below 4 cpu.regs) 4)) (λ b. flags_pushed len cpu.regs) s
unfolding push_flags flags_pushed pushed_number
pushf_form len cpu s null = push_done cpu s cpu.regs.flags.bits (eip_past len (with_whole 4 (esp_below 4 cpu.regs) cpu.regs)) null

pushs_form : (from : Operand) (len : ℕ) (cpu : Cpu) (s : Space) → IsSegment from → is_null cpu Ss ≡ false
    → push_seg from len cpu s ≡ user_form cpu (plain.writes (on_stack (esp_below 4 cpu.regs) 4))
    (λ b. pushed_from (selectors_of cpu) from (eip_past len cpu.regs)) s
unfolding push_seg pushed_number
pushs_form (Segment g) len cpu s n null =
    push_done cpu s (selector_in cpu g) (eip_past len (with_whole 4 (esp_below 4 cpu.regs) cpu.regs)) null
    ∙ ap (λ v. user_form cpu (plain.writes (on_stack (esp_below 4 cpu.regs) 4))
    (λ b. outcomes.Done (eip_past len (with_whole 4 (esp_below 4 cpu.regs) cpu.regs)) (One (store (esp_below 4 cpu.regs) Long v))) s)
    (sym (same_selector cpu g))
pushs_form Absent len cpu s n null = absurd n
pushs_form (Register k) len cpu s n null = absurd n
pushs_form (Memory a) len cpu s n null = absurd n
pushs_form (Control k) len cpu s n null = absurd n

-- the outcome of POPF
popped_case : (foreign : Bool) (cpu : Cpu) (s : Space) (len : ℕ) (f g : Flags) → f ≡ g
    → on_value (unless (refusal.Stop stops.FlagBits) (not foreign) s) (λ _. next (with_flags (past_pop cpu len) f))
    ≡ user_finished cpu (cond foreign (outcomes.Stop stops.FlagBits)
    (outcomes.Done (eip_past len (with_whole 4 (esp_above 4 cpu.regs) (record cpu.regs { flags = g }))) Nothing)) s
popped_case true cpu s len f g e = refl
popped_case false cpu s len f g e = ap (λ (x : Flags). next (with_flags (past_pop cpu len) x) s) e

popf_form : (len : ℕ) (cpu : Cpu) (s : Space) → IsUser cpu
    → pop_flags len cpu s ≡ user_form cpu (plain.reads (on_stack (stack_of cpu.regs) 4)) (λ b. flags_popped len cpu.regs b) s
unfolding pop_flags pulled flags_popped
popf_form len cpu s u =
    let r = cpu.regs in
    let at : ℕ = stack_of r in
    let h : Space → Outcome Refusal SysOutcome = λ t. user_finished cpu (flags_popped len r (byte_by (on_stack at 4) t t)) t in
    let left : ℕ → Work Refusal SysOutcome = λ v t. on_value (unless (refusal.Stop stops.FlagBits) (not (is_foreign v)) t)
    (λ _. next (with_flags (past_pop cpu len) (new_flags cpu v))) in
    let right : ℕ → Work Refusal SysOutcome =
    λ v t. user_finished cpu
    (cond (is_foreign v) (outcomes.Stop stops.FlagBits)
    (outcomes.Done (eip_past len (with_whole 4 (esp_above 4 r) (record r { flags = taken r.flags v }))) Nothing)) t
    in
    after_read (reaching at 4 (by_level cpu false) s) at h left
    (λ t. popped_case (is_foreign (loaded t at Long)) cpu t len (new_flags cpu (loaded t at Long)) (taken r.flags (loaded t at Long))
    (user_flags_agree cpu (loaded t at Long) u.rights u.level)
    ∙ ap (λ v. right v t) (sym (top_read cpu t)))
    ∙ sym (nonnull (is_null cpu Ss) s (λ t. on_value (reaching at 4 (by_level cpu false) t) (λ _. h)) u.stack)

-- a selector goes to a register or to memory
kept_form : (to : Operand) (sel len : ℕ) (cpu : Cpu) (s : Space) → IsPlace to → IsNamed to
    → selector_kept len cpu sel to s ≡ user_form cpu (plain.writes (operand_range to Word cpu.regs))
    (λ b. selector_to to sel len cpu.regs) s
unfolding selector_kept operand_reached address_of
kept_form (Register k) sel len cpu s p n =
    ap (λ j. next (with_regs cpu (eip_past len (with_whole j sel cpu.regs))) s) (let e : k % 8 ≡ k = omega arith in e)
kept_form (Memory a) sel len cpu s p n =
    let r = cpu.regs in
    let at : ℕ = address_of a r in
    memory_write (is_null cpu (segment_of a.base)) s at (by_level cpu true) sel
    (λ t. user_finished cpu (outcomes.Done (eip_past len r) (One (store at Word sel))) t) (next (past cpu len)) (λ t. refl)
kept_form Absent sel len cpu s p n = absurd cc
kept_form (Segment g) sel len cpu s p n = absurd cc
kept_form (Control k) sel len cpu s p n = absurd cc

reads_form : (from : Operand) (insn : Insn) (len : ℕ) (cpu : Cpu) (s : Space) → IsPlace insn.a → IsSegment from → IsNamed insn.a
    → read_seg insn from len cpu s ≡ user_form cpu (plain.writes (operand_range insn.a Word cpu.regs))
    (λ b. read_from (selectors_of cpu) from insn.a len cpu.regs) s
unfolding read_seg
reads_form (Segment g) insn len cpu s p f n =
    kept_form insn.a (selector_in cpu g) len cpu s p n
    ∙ ap (λ v. user_form cpu (plain.writes (operand_range insn.a Word cpu.regs)) (λ b. selector_to insn.a v len cpu.regs) s)
    (sym (same_selector cpu g))
reads_form Absent insn len cpu s p f n = absurd f
reads_form (Register k) insn len cpu s p f n = absurd f
reads_form (Memory a) insn len cpu s p f n = absurd f
reads_form (Control k) insn len cpu s p f n = absurd f

abbrev plain_number : Range → Space → Space → ℕ
plain_number range before after = number_at (byte_by (Some range) before after) Long range.at

-- the push of a CALL through memory, after its target's range
call_second : (touch : Touch) (s t : Space) (cpu : Cpu) (range : Range) (eip : ℕ) → t.earlier ≡ earlier_of s → range.len ≡ 4
    → on_value (on_value (met denials touch t)
    (λ _. (reads_earlier {E = Refusal} range.at Long
    >>= (λ target. (writes {E = Refusal} (esp_below 4 cpu.regs) Long eip >>= (λ _. gives target)))))) (λ v. next (with_regs cpu (gone_to v
    (with_whole 4 (esp_below 4 cpu.regs) cpu.regs))))
    ≡ on_value (met denials touch t)
    (λ _ u. user_finished cpu (outcomes.Done (gone_to (plain_number range s u) (with_whole 4 (esp_below 4 cpu.regs) cpu.regs))
    (One (store (esp_below 4 cpu.regs) Long eip))) u)
call_second Ready s t cpu range eip e four =
    ap (λ v. next (with_regs cpu (gone_to v (with_whole 4 (esp_below 4 cpu.regs) cpu.regs))) (saved t (esp_below 4 cpu.regs) Long eip))
    (earlier_read s t range.at e ∙ sym (number_read range s t four))
call_second (Fault code at) s t cpu range eip e four = refl
call_second (Stop stop) s t cpu range eip e four = refl

call_first : (n : Bool) (s : Space) (cpu : Cpu) (range : Range) (eip : ℕ) → is_null cpu Ss ≡ false → range.len ≡ 4
    → on_value (on_value (on_value (unless (refusal.Raise 13 0) (not n) s) (λ _. reaching range.at range.len (by_level cpu false)))
    (λ _. (reaching (esp_below 4 cpu.regs) 4 (by_level cpu true)
    >>= (λ _. (reads_earlier range.at Long >>= (λ target. (writes (esp_below 4 cpu.regs) Long eip >>= (λ _. gives target))))))))
    (λ v. next (with_regs cpu (gone_to v (with_whole 4 (esp_below 4 cpu.regs) cpu.regs))))
    ≡ on_value (unless (refusal.Raise 13 0) (not n) s)
    (λ _ t. on_value (unless (refusal.Raise 13 0) (not (is_null cpu Ss)) t)
    (λ _ u. on_value (reaching range.at range.len (by_level cpu false) u)
    (λ _ v. on_value (reaching (esp_below 4 cpu.regs) 4 (by_level cpu true) v)
    (λ _ w. user_finished cpu (outcomes.Done (gone_to (plain_number range v w) (with_whole 4 (esp_below 4 cpu.regs) cpu.regs))
    (One (store (esp_below 4 cpu.regs) Long eip))) w))))
unfolding accesses.reaching
call_first true s cpu range eip null four = refl
call_first false s cpu range eip null four =
    by_outcome (reaching range.at range.len (by_level cpu false) s)
    ∙ sym (nonnull (is_null cpu Ss) s (λ u. on_value (reaching range.at range.len (by_level cpu false) u) (λ _. second)) null)
  where
    second : Space → Outcome Refusal SysOutcome
    second v = on_value (reaching (esp_below 4 cpu.regs) 4 (by_level cpu true) v)
        (λ _ w. user_finished cpu (outcomes.Done (gone_to (plain_number range v w) (with_whole 4 (esp_below 4 cpu.regs) cpu.regs))
        (One (store (esp_below 4 cpu.regs) Long eip))) w)

    by_outcome : (o : Outcome Refusal (Unit {0})) → on_value (on_value o
        (λ _. (reaching (esp_below 4 cpu.regs) 4 (by_level cpu true)
        >>= (λ _. (reads_earlier range.at Long >>= (λ target. (writes (esp_below 4 cpu.regs) Long eip >>= (λ _. gives target))))))))
        (λ v. next (with_regs cpu (gone_to v (with_whole 4 (esp_below 4 cpu.regs) cpu.regs)))) ≡ on_value o (λ _. second)
    by_outcome (Ok p) =
        call_second (uses p.1 (esp_below 4 cpu.regs) 4 (by_level cpu true)).0 p.1
        (uses p.1 (esp_below 4 cpu.regs) 4 (by_level cpu true)).1 cpu range eip
        (uses_earlier p.1 (esp_below 4 cpu.regs) 4 (by_level cpu true)) four
    by_outcome (Err x) = refl

call_form : (o : Operand) (len : ℕ) (cpu : Cpu) (s : Space) → IsPlace o → IsNamed o → is_null cpu Ss ≡ false → call_to o len cpu s
    ≡ user_form cpu (record { read = operand_range o Long cpu.regs; write = on_stack (esp_below 4 cpu.regs) 4 })
    (λ b. cond (is_place o) (outcomes.Done (gone_to (value_of o Long cpu.regs b) (with_whole 4 (esp_below 4 cpu.regs) cpu.regs))
    (One (store (esp_below 4 cpu.regs) Long (eip_past len cpu.regs).eip))) (outcomes.Stop stops.Unsupported)) s
unfolding call_to branch.called_through operand_reached register_value
call_form (Register k) len cpu s p n null =
    ap (λ j. (pushed cpu (eip_past len cpu.regs).eip
    >>= (λ _. next (with_regs cpu (gone_to (slice_index cpu.regs.r j) (with_whole 4 (esp_below 4 cpu.regs) cpu.regs))))) s)
    (let e : k % 8 ≡ k = omega arith in e)
    ∙ push_done cpu s (eip_past len cpu.regs).eip (gone_to (slice_index cpu.regs.r k) (with_whole 4 (esp_below 4 cpu.regs) cpu.regs)) null
call_form (Memory a) len cpu s p n null =
    let range : Range = record { at = address_of a cpu.regs; len = 4; seg = segment_of a.base } in
    call_first (is_null cpu (segment_of a.base)) s cpu range (eip_past len cpu.regs).eip null refl
call_form Absent len cpu s p n null = absurd cc
call_form (Segment g) len cpu s p n null = absurd cc
call_form (Control k) len cpu s p n null = absurd cc

by_op : (o : Op) (insn : Insn) (len : ℕ) (cpu : Cpu) (s : Space) → insn.op ≡ o → IsUserSite o → OperandsFit o insn.a insn.b
    → IsShaped insn → IsUser cpu
    → sys.row o insn len cpu s ≡ user_form cpu (ranges_row o insn cpu.regs) (user_row o (selectors_of cpu) insn len cpu.regs) s
unfolding returned jumped_through called_through selector_read selector_pushed effect
by_op op.Return insn len cpu s e site fit shape u = ret_form insn cpu s u.stack
by_op op.JumpTo insn len cpu s e site fit shape u = jump_form insn.a cpu s shape.named_a
by_op op.CallTo insn len cpu s e site fit shape u = call_form insn.a len cpu s fit shape.named_a u.stack
by_op op.ReadSeg insn len cpu s e site fit shape u = reads_form insn.b insn len cpu s fit.0 fit.1 shape.named_a
by_op op.PushSeg insn len cpu s e site fit shape u = pushs_form insn.a len cpu s fit u.stack
by_op op.PushFlags insn len cpu s e site fit shape u =
    pushf_form len cpu s u.stack
    ∙ ap (λ (o : Op). user_form cpu (plain.writes (on_stack (esp_below 4 cpu.regs) 4)) (λ b. plain.row o insn len cpu.regs b) s) (sym e)
by_op op.PopFlags insn len cpu s e site fit shape u =
    popf_form len cpu s u ∙ ap (λ (o : Op). user_form cpu (plain.reads (on_stack (stack_of cpu.regs) 4))
    (λ b. plain.row o insn len cpu.regs b) s) (sym e)
by_op _ insn len cpu s e site fit shape u = absurd site

pub has_user_form : HasUserForm
unfolding sys_work user_executed ranges_of user_effect
has_user_form insn len cpu s site fit shape u = by_op insn.op insn len cpu s refl site fit shape u
