use Rattle.kept_laws.proofs.Holding.{held_stays, held_back}
use Rattle.kept_laws.proofs.judging.held_is.Goals as goal

pub returns : goal.returns
returns c = record { stays = held_stays; back = held_back }
