use Rattle.board.specs.Texts.{event_of_line}
use Rattle.std.proofs.Common.{rules}
use Rattle.board.proofs.read.read_line.Goals as goal

pub returns-then-is_skipped-clause-event : goal.returns-then-is_skipped-clause-event
unfolding event_of_line
returns-then-is_skipped-clause-event c = search rules
