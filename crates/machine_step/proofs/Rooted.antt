-- What each instruction and each delivery does to CR0, CR3 and CR4, and what it drops.
use Rattle.std.proofs.Common.{◌≡◌, ℕ, ◌/◌, ◌%◌, ◌<◌, ◌==◌, Bool, true, false, cond, not, ◌&&◌, Option, Some, None, Ok, Err, Result, zero, suc, refl, sym, ap, subst, ◌∙◌, arith}
use Rattle.std.specs.Prelude.{IfOk}
use Rattle.std.proofs.lemmas.Bool.{not-false, eqb-true, not-true, both_ways}
use Rattle.ia32_types.specs.declared.insn.Insn.{Insn}
use Rattle.ia32_types.specs.declared.insn.Op.{Op}
use Rattle.ia32_types.specs.declared.insn.Op.TheVariants as ops
use Rattle.ia32_exec.specs.declared.outcome.Outcome as exec
use Rattle.ia32_exec.specs.declared.outcome.Outcome.TheVariants as outcomes
use Rattle.ia32_exec.specs.Effect.{effect, ranges_of}
use Rattle.descriptors.specs.declared.cpu.Cpu.{Cpu}
use Rattle.event_entry.specs.declared.refusal.Kind.{Kind}
use Rattle.event_entry.specs.Deliver.{delivered}
use Rattle.paging.specs.Fresh.{has}
use Rattle.paging.specs.Space.{Space}
use Rattle.paging.specs.Work.{Outcome, unless}
use Rattle.step_exec.specs.Plain.{is_refused, finished, byte_by, reached, after_writes, after_reads, executed}
use Rattle.sys_exec.specs.declared.effect.Refusal.{Refusal}
use Rattle.sys_exec.specs.declared.effect.Refusal.TheVariants as refusals
use Rattle.sys_exec.specs.declared.effect.SysEffect.{SysEffect}
use Rattle.sys_exec.specs.declared.effect.SysEffect.TheVariants as effects
use Rattle.sys_exec.specs.declared.effect.SysOutcome.{SysOutcome}
use Rattle.sys_exec.specs.Operand.{past}
use Rattle.sys_exec.specs.Control.{changes_pse}
use Rattle.sys_exec.specs.Sys.{told, sys_work}
use Rattle.machine_model.specs.Instruction.{is_plain, done_plainly, instructed}
use Rattle.machine_model.specs.Taken.{is_load, is_write, is_control_3}
use Rattle.machine_model.proofs.Entering.{Enters, entering}
use Rattle.machine_model.proofs.Leaving.{Left, drops_all, sys_left}
use Rattle.machine_model.proofs.Yielding.{Ends, Yields, any_yields}
use Rattle.machine_step.specs.declared.worked.Completed.{Completed}
use Rattle.machine_step.specs.declared.worked.Dropped.TheVariants as drops
use Rattle.machine_step.specs.declared.worked.Seen.TheVariants as seen
use Rattle.machine_step.specs.declared.worked.Worked.{Worked}
use Rattle.machine_step.specs.Worked.{completed_of, completed_by, is_all}
use Rattle.machine_step.specs.Roots.{RootsAs, KeepsRoots, EndsWith, dropped_by, EffectRoots}

pub if_ok_as : {T E : Type 0} (P Q : T → Type 0) (r : Result T E) → ((x : T) → P x → Q x) → IfOk r P → IfOk r Q
if_ok_as P Q (Ok x) f h = f x h
if_ok_as P Q (Err e) f h = tt

-- ---- a step that went

-- no load of CR3 completed, the registers are kept, and not all is dropped
pub plain_roots : (before : Cpu) (w : Worked) → is_load (completed_by w.completed) ≡ false → KeepsRoots before w.cpu
    → is_all w.dropped ≡ false → RootsAs before w
plain_roots before w none k some = record {
  through = λ e. k.cr3;
  load = λ e. absurd (both_ways (is_load (completed_by w.completed)) none e);
  all = λ e l. absurd (both_ways (is_all w.dropped) some e);
  page_size = λ ne. absurd (ne (ap (λ (x : ℕ). has x 0x10) k.cr4));
}

pub kept_roots : (completed : Option Completed) (before : Cpu) (w : Worked) → is_load (completed_by completed) ≡ false
    → EndsWith completed before w → RootsAs before w
kept_roots completed before w none h =
    plain_roots before w (ap (λ (c : Option Completed). is_load (completed_by c)) h.completed_is ∙ none) h.roots (ap is_all h.dropped_is)

pub same_roots : (cpu : Cpu) → KeepsRoots cpu cpu
same_roots cpu = record { cr0 = refl; cr3 = refl; cr4 = refl }

pub ends_on : (completed : Option Completed) (before after : Cpu) (w : Worked) → KeepsRoots before after → EndsWith completed after w
    → EndsWith completed before w
ends_on completed before after w k h = record {
  completed_is = h.completed_is;
  dropped_is = h.dropped_is;
  roots = record { cr0 = h.roots.cr0 ∙ k.cr0; cr3 = h.roots.cr3 ∙ k.cr3; cr4 = h.roots.cr4 ∙ k.cr4 };
}

-- what an instruction did, and then a step that goes on with it
pub ended_roots : (completed : Completed) (before after : Cpu) (w : Worked)
    → RootsAs before (record { seen = seen.Nothing; completed = Some completed; cpu = after; dropped = drops.Nothing; raised = None })
    → EndsWith (Some completed) after w → RootsAs before w
ended_roots completed before after w h k =
    let is : is_load (completed_by w.completed) ≡ is_load (Some (completed_of completed)) =
    ap (λ (c : Option Completed). is_load (completed_by c)) k.completed_is in
    record {
      through = λ e. k.roots.cr3 ∙ h.through (sym is ∙ e);
      load = λ e. absurd (both_ways false refl (h.load (sym is ∙ e)).0);
      all = λ e l. absurd (both_ways (is_all w.dropped) (ap is_all k.dropped_is) e);
      page_size = λ ne. absurd (both_ways false refl (h.page_size (λ e. ne (ap (λ (x : ℕ). has x 0x10) k.roots.cr4 ∙ e))));
    }

-- a hold is none of these registers
pub unheld_roots : (cpu : Cpu) (w : Worked) → RootsAs (record cpu { held = false }) w → RootsAs cpu w
unheld_roots cpu w h = record { through = h.through; load = h.load; all = h.all; page_size = h.page_size }

-- ---- deliveries

enters_keeps : (cpu after : Cpu) → Enters cpu after → KeepsRoots cpu after
enters_keeps cpu after (Enters.handler entry stack top far is) = record { cr0 = refl; cr3 = refl; cr4 = refl }

pub entered_keeps : (cpu after : Cpu) (vector : ℕ) (kind : Kind) (code : Option ℕ) (s t : Space)
    → delivered cpu vector kind code s ≡ Ok (after, t) → KeepsRoots cpu after
entered_keeps cpu after vector kind code s t e = enters_keeps cpu after (entering cpu after vector kind code s t e)

-- ---- plain instructions

module _ (cpu : Cpu) where
  of_finished : (s : Space) (o : exec.Outcome) → Ends (KeepsRoots cpu) (finished cpu s o)
  of_finished s (outcomes.Done regs stores) = record { cr0 = refl; cr3 = refl; cr4 = refl }
  of_finished s (outcomes.Raise vector code) = tt
  of_finished s (outcomes.Stop stop) = tt

  of_writes : (insn : Insn) (len : ℕ) (before : Space) (o : Outcome Refusal (Unit {0}))
      → Ends (KeepsRoots cpu) (after_writes insn len cpu before o)
  of_writes insn len before (Ok done) = of_finished done.1 (effect insn len cpu.regs (byte_by (ranges_of insn cpu.regs).read before done.1))
  of_writes insn len before (Err refused) = tt

  of_reads : (insn : Insn) (len : ℕ) (o : Outcome Refusal (Unit {0})) → Ends (KeepsRoots cpu) (after_reads insn len cpu o)
  of_reads insn len (Ok done) = of_writes insn len done.1 (reached cpu true (ranges_of insn cpu.regs).write done.1)
  of_reads insn len (Err refused) = tt

  of_plain : (insn : Insn) (len : ℕ) → Yields (KeepsRoots cpu) (executed insn len cpu)
  unfolding executed
  of_plain insn len =
      any_yields (unless (refusals.Raise 13 0) (not (is_refused cpu (ranges_of insn cpu.regs))))
      (λ done. record { each = λ s. of_reads insn len (reached cpu false (ranges_of insn cpu.regs).read s) })

-- ---- each instruction

-- two bits that are 1 together are the same
same_bits : (m n : ℕ) → m < 2 → n < 2 → (m == 1) ≡ (n == 1) → (m == n) ≡ true
same_bits zero zero h k e = refl
same_bits zero (suc zero) h k e = absurd (let f : false ≡ true = e in cc)
same_bits (suc zero) zero h k e = absurd (let f : true ≡ false = e in cc)
same_bits (suc zero) (suc zero) h k e = refl
same_bits (suc (suc m)) n h k e = absurd (omega (arith, h))
same_bits zero (suc (suc n)) h k e = absurd (omega (arith, k))
same_bits (suc zero) (suc (suc n)) h k e = absurd (omega (arith, k))

module _ (completed : Completed) (cpu : Cpu) where
  abbrev load : Bool
  load = is_load (Some (completed_of completed))

  abbrev IsLeft : SysOutcome → Type 0
  IsLeft d = EffectRoots completed cpu d.effect d.cpu

  stays_left : (e : SysEffect) (new : Cpu) → load ≡ false → KeepsRoots cpu new → is_all (dropped_by e) ≡ false
      → EffectRoots completed cpu e new
  stays_left (effects.Raise vector code) new none k some = k
  stays_left (effects.Stop stop) new none k some = tt
  stays_left e new none k some =
      plain_roots cpu (record { seen = seen.Nothing; completed = Some completed; cpu = new; dropped = dropped_by e; raised = None }) none k
      some

  -- ---- MOV to a control register

  of_0 : (new : Cpu) → load ≡ false → new.cr3 ≡ cpu.cr3 → new.cr4 ≡ cpu.cr4
      → RootsAs cpu (record { seen = seen.Nothing; completed = Some completed; cpu = new; dropped = drops.Nothing; raised = None })
  of_0 new none k h = record {
    through = λ e. k;
    load = λ e. absurd (both_ways load none e);
    all = λ e l. absurd (both_ways false refl e);
    page_size = λ ne. absurd (ne (ap (λ (x : ℕ). has x 0x10) h));
  }

  of_3 : (new : Cpu) → load ≡ true → new.cr0 ≡ cpu.cr0 → new.cr4 ≡ cpu.cr4
      → RootsAs cpu (record { seen = seen.Nothing; completed = Some completed; cpu = new; dropped = drops.All; raised = None })
  of_3 new is a b = record {
    through = λ e. absurd (both_ways load e is);
    load = λ e. (refl, a, b);
    all = λ e none. absurd (both_ways load none is);
    page_size = λ ne. refl;
  }

  of_4 : (new : Cpu) (test : Bool) → changes_pse cpu new.cr4 ≡ test → load ≡ false → new.cr3 ≡ cpu.cr3
      → EffectRoots completed cpu (cond test effects.DropAll effects.Next) new
  of_4 new true t none k = record {
    through = λ e. k;
    load = λ e. absurd (both_ways load none e);
    all = λ e l same.
        both_ways (new.cr4 / 0x10 % 2 == cpu.cr4 / 0x10 % 2) (not-true (new.cr4 / 0x10 % 2 == cpu.cr4 / 0x10 % 2) t)
        (same_bits (new.cr4 / 0x10 % 2) (cpu.cr4 / 0x10 % 2) (omega arith) (omega arith) same);
    page_size = λ ne. refl;
  }
  of_4 new false t none k = record {
    through = λ e. k;
    load = λ e. absurd (both_ways load none e);
    all = λ e l. absurd (both_ways false refl e);
    page_size = λ ne. absurd (ne (ap (λ (x : ℕ). x == 1) (eqb-true (new.cr4 / 0x10 % 2) (cpu.cr4 / 0x10 % 2) (not-false _ t))));
  }

  -- ---- the rows, by how they leave the processor

  none_dropped : (e : SysEffect) → drops_all e ≡ false → is_all (dropped_by e) ≡ false
  none_dropped effects.DropAll h = absurd (let f : true ≡ false = h in cc)
  none_dropped e h = refl

  row_roots : (d : SysOutcome) → Left cpu load d → IsLeft d
  row_roots d (Left.beside none new e some h) =
      stays_left e new none (record { cr0 = h.cr0; cr3 = h.cr3; cr4 = h.cr4 }) (none_dropped e some)
  row_roots d (Left.interrupts none new b w h) = stays_left effects.Next new none (record { cr0 = h.cr0; cr3 = h.cr3; cr4 = h.cr4 }) refl
  row_roots d (Left.popped_flags none new image h) =
      stays_left effects.Next new none (record { cr0 = h.cr0; cr3 = h.cr3; cr4 = h.cr4 }) refl
  row_roots d (Left.halts none len t) = stays_left effects.Halted d.cpu none (record { cr0 = refl; cr3 = refl; cr4 = refl }) refl
  row_roots d (Left.stack none after h w k) = stays_left effects.Next d.cpu none (record { cr0 = w.cr0; cr3 = w.cr3; cr4 = w.cr4 }) refl
  row_roots d (Left.of_data none after place h w one two k) =
      stays_left effects.Next d.cpu none (record { cr0 = w.cr0; cr3 = w.cr3; cr4 = w.cr4 }) refl
  row_roots d (Left.code none eip h k) = stays_left effects.Next d.cpu none (record { cr0 = refl; cr3 = refl; cr4 = refl }) refl
  row_roots d (Left.same_level none p l h inward) = stays_left effects.Next d.cpu none (record { cr0 = refl; cr3 = refl; cr4 = refl }) refl
  row_roots d (Left.outer_level none p top l s h k) =
      stays_left effects.Next d.cpu none (record { cr0 = refl; cr3 = refl; cr4 = refl }) refl
  row_roots d (Left.control_0 none len v t) = of_0 d.cpu none refl refl
  row_roots d (Left.control_3 is len v t) = of_3 d.cpu is refl refl
  row_roots d (Left.control_4 none len v t) = of_4 (record (past cpu len) { cr4 = v }) (changes_pse (past cpu len) v) refl none refl

  ends_left : (o : Outcome Refusal SysOutcome) → Ends (Left cpu load) o → Ends IsLeft o
  ends_left (Ok x) h = row_roots x.0 h
  ends_left (Err refused) h = tt

  plainly_left : (o : Outcome Refusal Cpu) → load ≡ false → Ends (KeepsRoots cpu) o → Ends IsLeft (done_plainly o)
  plainly_left (Ok x) none h = stays_left effects.Next x.0 none h refl
  plainly_left (Err refused) none h = tt

  not_write : (o : Op) → is_plain o ≡ true → is_write o ≡ false
  not_write ops.WriteControl e = absurd (let f : false ≡ true = e in cc)
  not_write o e = refl

  choice : (test : Bool) (x y : Outcome Refusal SysOutcome) → (test ≡ true → Ends IsLeft x) → Ends IsLeft y → Ends IsLeft (cond test x y)
  choice true x y h k = h refl
  choice false x y h k = k

  pub left : (insn : Insn) (len : ℕ) (s : Space) → completed.insn ≡ insn → Ends IsLeft (instructed insn len cpu s)
  unfolding instructed
  left insn len s is =
      let e : load ≡ (is_write insn.op && is_control_3 insn.a) = ap (λ (i : Insn). is_write i.op && is_control_3 i.a) is in
      choice (is_plain insn.op) (done_plainly (executed insn len cpu s)) (sys_work insn len cpu s)
      (λ plain. plainly_left (executed insn len cpu s) (e ∙ ap (λ (b : Bool). b && is_control_3 insn.a) (not_write insn.op plain))
      ((of_plain cpu insn len).each s))
      (ends_left (sys_work insn len cpu s) ((sys_left cpu load insn len e).each s))

  -- ---- what is recorded of it

  refusal_roots : (r : Refusal) (s t : Space) (e : SysEffect) (after : Cpu) → told cpu (Err (r, s)) ≡ (e, after, t)
      → EffectRoots completed cpu e after
  refusal_roots (refusals.Fault code at) s t e after g =
      subst (λ (p : SysEffect × Cpu × Space). EffectRoots completed cpu p.0 p.1) g (record { cr0 = refl; cr3 = refl; cr4 = refl })
  refusal_roots (refusals.Raise vector code) s t e after g =
      subst (λ (p : SysEffect × Cpu × Space). EffectRoots completed cpu p.0 p.1) g (same_roots cpu)
  refusal_roots (refusals.Stop stop) s t e after g = subst (λ (p : SysEffect × Cpu × Space). EffectRoots completed cpu p.0 p.1) g tt

  pub told_roots : (o : Outcome Refusal SysOutcome) (e : SysEffect) (after : Cpu) (t : Space) → told cpu o ≡ (e, after, t) → Ends IsLeft o
      → EffectRoots completed cpu e after
  told_roots (Ok done) e after t g h = subst (λ (p : SysEffect × Cpu × Space). EffectRoots completed cpu p.0 p.1) g h
  told_roots (Err refused) e after t g h = refusal_roots refused.0 refused.1 t e after g
