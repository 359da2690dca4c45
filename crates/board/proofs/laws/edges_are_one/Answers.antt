use Rattle.board.proofs.QuietSteps.{events_later, edges_are_one}
use Rattle.board.proofs.laws.edges_are_one.Goals as goal

pub returns-clause-events : goal.returns-clause-events
returns-clause-events c = events_later

pub returns-clause-edges : goal.returns-clause-edges
returns-clause-edges c = edges_are_one
