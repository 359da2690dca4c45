-- An insensitive instruction's step, divided after its ranges.
use Rattle.std.proofs.Common.{◌≡◌, ℕ, Bool, true, cond, Ok, Err, refl, ap, ◌∙◌}
use Rattle.ia32_types.specs.declared.insn.Insn.{Insn}
use Rattle.ia32_exec.specs.Effect.{ranges_of}
use Rattle.paging.specs.Space.{Space}
use Rattle.paging.specs.Work.{Outcome, on_value}
use Rattle.sys_exec.specs.declared.effect.Refusal.{Refusal}
use Rattle.sys_exec.specs.Sys.{sys_work}
use Rattle.step_exec.specs.Plain.{executed}
use Rattle.step_exec.specs.Divided.{both_reached, completed, divided}
use Rattle.step_exec.proofs.Divided.{executed_divides}
use Rattle.machine_model.specs.State.{Setting, State}
use Rattle.machine_model.specs.Instruction.{is_plain, instructed, done_plainly}
use Rattle.machine_model.specs.Step.{Completed, after_instruction}
use Rattle.machine_step.specs.Begun.{after_reach}
use Rattle.machine_step.specs.Laws.{PlainDivides, plainly_on}

by_outcome : (m : Setting) (b : State) (c : Completed) (insn : Insn) (len : ℕ) (o : Outcome Refusal (Unit {0}))
    → after_instruction m b c (done_plainly (on_value o (λ _. completed insn len b.cpu))) ≡ after_reach m b c o (plainly_on m b c insn len)
by_outcome m b c insn len (Ok done) = refl
by_outcome m b c insn len (Err refused) = refl

as_plain : (insn : Insn) (len : ℕ) (b : State) (s : Space) → is_plain insn.op ≡ true
    → instructed insn len b.cpu s ≡ done_plainly (executed insn len b.cpu s)
unfolding instructed
as_plain insn len b s e = ap (λ (t : Bool). cond t (done_plainly (executed insn len b.cpu s)) (sys_work insn len b.cpu s)) e

as_divided : (insn : Insn) (len : ℕ) (b : State) (s : Space)
    → executed insn len b.cpu s ≡ on_value (both_reached b.cpu (ranges_of insn b.cpu.regs) s) (λ _. completed insn len b.cpu)
unfolding divided
as_divided insn len b s = executed_divides insn len b.cpu s

pub divides : PlainDivides
divides m b c insn len s e =
    ap (after_instruction m b c) (as_plain insn len b s e ∙ ap done_plainly (as_divided insn len b s))
    ∙ by_outcome m b c insn len (both_reached b.cpu (ranges_of insn b.cpu.regs) s)
