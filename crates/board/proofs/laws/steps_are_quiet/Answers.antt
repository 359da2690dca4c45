use Rattle.board.proofs.QuietSteps.{quiet_from}
use Rattle.board.proofs.laws.steps_are_quiet.Goals as goal

pub returns : goal.returns
returns c = quiet_from
