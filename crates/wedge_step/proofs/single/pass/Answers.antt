use Rattle.std.proofs.Common.{refl, ◌∙◌}
use Rattle.board.proofs.QuietSteps.{one_step}
use Rattle.wedge_step.proofs.single.pass.Goals as goal

pub returns-clause-cpu : goal.returns-clause-cpu
returns-clause-cpu c = refl

pub returns-clause-step : goal.returns-clause-step
returns-clause-step c = refl

pub returns-clause-board : goal.returns-clause-board
returns-clause-board c = c.advance.ensures ∙ one_step _
