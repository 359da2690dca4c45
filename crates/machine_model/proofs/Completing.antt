-- What a step completes, and what of it counts.
use Rattle.std.proofs.Common.{◌≡◌, ℕ, ◌/◌, ◌%◌, ◌==◌, Bool, true, false, cond, refl, sym, ap, subst, ◌∙◌, Option, Some, None, Ok, Err}
use Rattle.std.specs.Option.{ForSome}
use Rattle.std.proofs.lemmas.Bool.{and_parts, eqb-true, both_ways}
use Rattle.ia32_types.specs.declared.insn.Insn.{Insn}
use Rattle.ia32_types.specs.declared.insn.Op.{Op}
use Rattle.ia32_types.specs.declared.insn.Op.TheVariants as op
use Rattle.ia32_types.specs.declared.insn.Operand.{Operand}
use Rattle.ia32_types.specs.declared.insn.Operand.TheVariants as operands
use Rattle.ia32_decode.specs.declared.answer.Decoded.TheVariants as begins
use Rattle.descriptors.specs.declared.cpu.Cpu.{Cpu}
use Rattle.paging.specs.Space.{Space}
use Rattle.paging.specs.Fresh.{has}
use Rattle.paging.specs.Work.{Outcome, Work, ◌>>=◌, unless}
use Rattle.step_exec.specs.Plain.{executed}
use Rattle.sys_exec.specs.declared.effect.Refusal.{Refusal}
use Rattle.sys_exec.specs.declared.effect.SysOutcome.{SysOutcome}
use Rattle.sys_exec.specs.Control.{write_control, read_control}
use Rattle.sys_exec.specs.Flags.{clear_interrupts, set_interrupts, halt}
use Rattle.sys_exec.specs.Iret.{is_within}
use Rattle.sys_exec.specs.Table.{load_gdt, load_idt, load_tr, drop_page}
use Rattle.sys_exec.specs.Port.{port_in, port_out}
use Rattle.sys_exec.specs.Sys.{row, sys_work}
use Rattle.machine_model.specs.State.{Setting, State, space_at_start}
use Rattle.machine_model.specs.Rules.{stands_well, is_open}
use Rattle.machine_model.specs.Instruction.{fetched, instructed, is_plain, done_plainly}
use Rattle.machine_model.specs.Step.{after_refusal, Completed, Report, Result, Went, Halts, begun, after_fetch, interrupt_of, unheld}
use Rattle.machine_model.specs.Alone.{IsDone, IsUser, is_barred, StepsAreDone}
use Rattle.machine_model.proofs.AbleRows.{over, above}
use Rattle.machine_model.proofs.Goes.{Fetch, Did, IsOf, Goes, Steps, goes, steps}
use Rattle.machine_model.specs.Counts.{is_software}

-- where the instruction is done, X
abbrev DoneIf : Type 0 → Outcome Refusal SysOutcome → Type 0
DoneIf X (Ok x) = X
DoneIf X (Err e) = Unit {0}

-- ---- what is barred to a user

pub first_refused : (e : Refusal) (test : Bool) (f : Unit {0} → Work Refusal SysOutcome) (s : Space) → test ≡ false
    → DoneIf ⊥ ((unless e test >>= f) s)
first_refused e true f s h = absurd (both_ways true h refl)
first_refused e false f s h = tt

module _ (cpu : Cpu) (user : cpu.cpl ≡ 3) (open_flags : is_open cpu ≡ true) where
  not_within : is_within cpu ≡ false
  not_within = over cpu.cpl (cpu.regs.flags.bits / 4096 % 4) user
      (eqb-true (cpu.regs.flags.bits / 4096 % 4) 0
      (and_parts (has cpu.regs.flags.bits 512) (cpu.regs.flags.bits / 4096 % 4 == 0) open_flags).1)

  barred_read : (a b : Operand) (len : ℕ) (s : Space) → DoneIf ⊥ (read_control a b len cpu s)
  unfolding read_control
  barred_read (operands.Register k) (operands.Control number) len s = first_refused _ (cpu.cpl == 0) _ s (above cpu.cpl user)
  barred_read a b len s = tt

  barred_write : (a b : Operand) (len : ℕ) (s : Space) → DoneIf ⊥ (write_control a b len cpu s)
  unfolding write_control
  barred_write (operands.Control number) (operands.Register k) len s = first_refused _ (cpu.cpl == 0) _ s (above cpu.cpl user)
  barred_write a b len s = tt

  barred : (o : Op) (insn : Insn) (len : ℕ) (s : Space) → is_barred o ≡ true
      → DoneIf ⊥ (cond (is_plain o) (done_plainly (executed insn len cpu s)) (row o insn len cpu s))
  unfolding clear_interrupts set_interrupts halt load_gdt load_idt load_tr drop_page port_in port_out
  barred op.Cli insn len s e = first_refused _ (is_within cpu) _ s not_within
  barred op.Sti insn len s e = first_refused _ (is_within cpu) _ s not_within
  barred op.Hlt insn len s e = first_refused _ (cpu.cpl == 0) _ s (above cpu.cpl user)
  barred op.ReadControl insn len s e = barred_read insn.a insn.b len s
  barred op.WriteControl insn len s e = barred_write insn.a insn.b len s
  barred op.LoadGdt insn len s e = first_refused _ (cpu.cpl == 0) _ s (above cpu.cpl user)
  barred op.LoadIdt insn len s e = first_refused _ (cpu.cpl == 0) _ s (above cpu.cpl user)
  barred op.LoadTask insn len s e = first_refused _ (cpu.cpl == 0) _ s (above cpu.cpl user)
  barred op.DropPage insn len s e = first_refused _ (cpu.cpl == 0) _ s (above cpu.cpl user)
  barred op.PortIn insn len s e = first_refused _ (is_within cpu) _ s not_within
  barred op.PortOut insn len s e = first_refused _ (is_within cpu) _ s not_within
  barred o insn len s e = absurd (let f : false ≡ true = e in cc)

pub instructed_by : (o : Op) (insn : Insn) (len : ℕ) (cpu : Cpu) (s : Space) → insn.op ≡ o
    → instructed insn len cpu s ≡ cond (is_plain o) (done_plainly (executed insn len cpu s)) (row o insn len cpu s)
unfolding instructed sys_work
instructed_by o insn len cpu s e = ap (λ x. cond (is_plain x) (done_plainly (executed insn len cpu s)) (row x insn len cpu s)) e

-- ---- one step

-- a user's instruction that was done is none that is barred
done_lets : (b : State) (f : Fetch) (insn : Insn) (d : SysOutcome) (u : Space) → Did b f insn d u → IsUser b.cpu
    → is_barred insn.op ≡ false
done_lets b f insn d u h user = by_test (is_barred insn.op) refl
  where
    by_test : (test : Bool) → is_barred insn.op ≡ test → test ≡ false
    by_test false free = refl
    by_test true bars =
        let p = and_parts (b.cpu.cpl == 3) (is_open b.cpu) user in
        absurd (subst (DoneIf ⊥) (sym (instructed_by insn.op insn h.len b.cpu h.from refl) ∙ h.does)
        (barred b.cpu (eqb-true b.cpu.cpl 3 p.0) p.1 insn.op insn h.len h.from bars))

soft_lets : (o : Op) → is_software o ≡ true → is_barred o ≡ false
soft_lets op.Int e = refl
soft_lets op.Int3 e = refl
soft_lets o e = absurd (let f : false ≡ true = e in cc)

-- what a step completes after a fetch: nothing, or the instruction that was read; a user's is none that is barred
pub data Completes (b : State) (f : Fetch) : Option Completed → Type 0 where
  nothing : Completes b f None
  one : (insn : Insn) (len : ℕ) (t : Space) → f ≡ Ok (begins.Insn insn len, t) → (IsUser b.cpu → is_barred insn.op ≡ false)
      → Completes b f (Some (begun b insn))

of_kind : (b : State) (f : Fetch) (c : Option Completed) → IsOf b f c → Completes b f c
of_kind b f c IsOf.nothing = Completes.nothing
of_kind b f c (IsOf.software insn len t is soft) = Completes.one insn len t is (λ user. soft_lets insn.op soft)

abbrev CompletedBy : State → Fetch → Result → Type 0
CompletedBy b f (Went report after) = Completes b f report.completed
CompletedBy b f (Halts stop) = Unit {0}

of_goes : (m : Setting) (b : State) (f : Fetch) (r : Result) → Goes m b f r → CompletedBy b f r
of_goes m b f r (Goes.stops stop) = tt
of_goes m b f r (Goes.enters c base vector kind code t cpu u is h k e) = of_kind b f c is
of_goes m b f r (Goes.does insn d u h whats cpu board set e less) = Completes.one insn h.len h.from h.fetches (done_lets b f insn d u h)

pub completes : (m : Setting) (b : State) (f : Fetch) (report : Report) (after : State) → after_fetch m b f ≡ Went report after
    → Completes b f report.completed
completes m b f report after e = subst (CompletedBy b f) e (of_goes m b f (after_fetch m b f) (goes m b f))

-- a refusal completes nothing
pub refused_completes : (m : Setting) (b : State) (r : Refusal) (s : Space) (report : Report) (after : State)
    → after_refusal m b r s ≡ Went report after → report.completed ≡ None
refused_completes m b r s report after e = of_completed report.completed (completes m b (Err (r, s)) report after e)
  where
    of_completed : (c : Option Completed) → Completes b (Err (r, s)) c → c ≡ None
    of_completed c Completes.nothing = refl
    of_completed c (Completes.one insn len t is lets) =
        absurd (let f : ◌≡◌ {A = Fetch} (Err (r, s)) (Ok (begins.Insn insn len, t)) = is in cc)

in_none : (P : Completed → Type 0) → ForSome None P
in_none P x e = absurd (let f : None ≡ Some x = e in cc)

in_some : (P : Completed → Type 0) (c : Completed) → P c → ForSome (Some c) P
in_some P c p x e = let h : c ≡ x = cc in subst P h p

is_done : (m : Setting) (b : State) → interrupt_of b.cpu b.board ≡ None → b.cpu.halted ≡ false → stands_well m b.cpu ≡ true
    → (c : Option Completed)
    → Completes (unheld b) (fetched (b.cpu.cpl == 3) b.cpu.regs.eip (space_at_start m.mode m.frames b.cpu b.ram b.set)) c
    → ForSome c (IsDone m b)
is_done m b none awake well c Completes.nothing = in_none (IsDone m b)
is_done m b none awake well c (Completes.one insn len t reads lets) = in_some (IsDone m b) (begun b insn) (record {
  same = refl;
  awake = awake;
  takes_none = none;
  stands = well;
  reads = record { len = len; after = t; fetches = reads };
  lets = lets;
})

abbrev Does : Setting → State → Result → Type 0
Does m b (Went report after) = ForSome report.completed (IsDone m b)
Does m b (Halts stop) = Unit {0}

after_goes : (m : Setting) (b : State) → interrupt_of b.cpu b.board ≡ None → b.cpu.halted ≡ false → stands_well m b.cpu ≡ true
    → (r : Result)
    → CompletedBy (unheld b) (fetched (b.cpu.cpl == 3) b.cpu.regs.eip (space_at_start m.mode m.frames b.cpu b.ram b.set)) r → Does m b r
after_goes m b none awake well (Went report after) h = is_done m b none awake well report.completed h
after_goes m b none awake well (Halts stop) h = tt

of_steps : (m : Setting) (b : State) (r : Result)
    → Steps m (unheld b) (interrupt_of b.cpu b.board) (space_at_start m.mode m.frames b.cpu b.ram b.set) r → Does m b r
of_steps m b r (Steps.stops stop) = tt
of_steps m b r (Steps.rests halted) = in_none (IsDone m b)
of_steps m b r (Steps.takes v cpu u e) = in_none (IsDone m b)
of_steps m b r (Steps.fetches x none awake well h) = after_goes m b none awake well x (of_goes m (unheld b) _ x h)

pub each_done : StepsAreDone
each_done m b report after e = subst (Does m b) e (of_steps m b _ (steps m b))
