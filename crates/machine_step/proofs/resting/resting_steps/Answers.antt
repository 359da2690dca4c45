use Rattle.std.proofs.Common.{◌≡◌, ◌-◌, true, false, sym, ◌∙◌}
use Rattle.machine_step.proofs.Sleeping.{rests_at}
use Rattle.machine_step.proofs.resting.resting_steps.Goals as goal

pub returns-then-not-is_resting-clause-furthest : goal.returns-then-not-is_resting-clause-furthest
returns-then-not-is_resting-clause-furthest c =
    λ halted held none _. absurd (let q : false ≡ true = sym c.if-not-is_resting.true ∙ c.is_resting.ensures.waits halted held none in cc)

pub returns-then-not-is_resting-clause-past_edges : goal.returns-then-not-is_resting-clause-past_edges
returns-then-not-is_resting-clause-past_edges c =
    λ halted held none _ _. absurd (let q : false ≡ true = sym c.if-not-is_resting.true ∙ c.is_resting.ensures.waits halted held none in cc)

pub returns-clause-sleeps : goal.returns-clause-sleeps
returns-clause-sleeps c = λ some.
    let is = c.is_resting.ensures.rests c.if-not-is_resting.false in
    c.halted_steps_rest.ensures.quiet c.quiet_steps.result c.args.cpu.now c.args.board.now c.args.script.now.list (c.args.step - 1)
    (rests_at c.args.cpu.now c.args.board.now is.0 is.1 is.2) (c.quiet_steps.ensures.quiet some)
