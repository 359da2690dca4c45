use Rattle.std.proofs.Common.{[], Bool, Some, cond, refl, sym, ap, ◌∙◌}
use Rattle.ia32_types.specs.declared.stop.Stop.TheVariants.{UserFlags}
use Rattle.machine_model.specs.Step.{concluded, Halts}
use Rattle.machine_step.specs.Worked.{completed_of, done_by}
use Rattle.machine_step.proofs.rules.ended.Goals as goal

pub returns-then-may-clause-step : goal.returns-then-may-clause-step
returns-then-may-clause-step c = λ m b s k.
    rw c.complete.ensures
    (ap (λ (t : Bool). cond t (concluded [] (Some (completed_of (done_by c.args.insn.now c.args.before.now))) b c.args.worked.now.cpu
    b.board s) (Halts UserFlags))
    (sym (c.may_leave-may.ensures m k) ∙ c.if-may.true))

pub returns-else-may-clause-step : goal.returns-else-may-clause-step
returns-else-may-clause-step c = λ m b s k.
    ap (λ (t : Bool). cond t (concluded [] (Some (completed_of (done_by c.args.insn.now c.args.before.now))) b c.args.worked.now.cpu b.board
    s) (Halts UserFlags))
    (sym (c.may_leave-may.ensures m k) ∙ c.if-may.false)

pub returns-then-may-clause-ends : goal.returns-then-may-clause-ends
returns-then-may-clause-ends c =
    rw c.complete.ensures (record { completed_is = refl; dropped_is = refl; roots = record { cr0 = refl; cr3 = refl; cr4 = refl } })
