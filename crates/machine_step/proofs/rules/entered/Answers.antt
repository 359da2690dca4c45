use Rattle.std.proofs.Common.{Bool, cond, sym, ap, ◌∙◌}
use Rattle.ia32_types.specs.declared.stop.Stop.TheVariants.{NotAStart}
use Rattle.machine_model.specs.Step.{concluded, Halts}
use Rattle.machine_step.specs.Worked.{whats, completed_by}
use Rattle.machine_step.proofs.rules.entered.Goals as goal

pub returns-then-well-clause-step : goal.returns-then-well-clause-step
returns-then-well-clause-step c = λ m b board s k.
    ap (λ (t : Bool). cond t (concluded (whats c.args.seen) (completed_by c.args.completed) b c.args.worked.now.cpu board s)
    (Halts NotAStart)) (sym (c.stands_well-well.ensures m k) ∙ c.if-well.true)

pub returns-else-well-clause-step : goal.returns-else-well-clause-step
returns-else-well-clause-step c = λ m b board s k.
    ap (λ (t : Bool). cond t (concluded (whats c.args.seen) (completed_by c.args.completed) b c.args.worked.now.cpu board s)
    (Halts NotAStart)) (sym (c.stands_well-well.ensures m k) ∙ c.if-well.false)
