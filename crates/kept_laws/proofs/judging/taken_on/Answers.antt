use Rattle.kept_laws.proofs.Holding.{taken_on}
use Rattle.kept_laws.proofs.judging.taken_on.Goals as goal

pub returns : goal.returns
returns c = taken_on c.steps_join.ensures.taken
