use Rattle.board.proofs.Steps.{steps_are}
use Rattle.board.specs.Boards.{edged}
use Rattle.std.proofs.Common.{rules}
use Rattle.board.proofs.devices.Board.advance.Goals as goal

pub returns-else-pass : goal.returns-else-pass
unfolding edged
returns-else-pass c = search (rules, steps_are)
