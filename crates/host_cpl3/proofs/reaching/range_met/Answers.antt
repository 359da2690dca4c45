use Rattle.host_cpl3.specs.Access.{range_met}
use Rattle.std.proofs.Common.{rules}
use Rattle.host_cpl3.proofs.reaching.range_met.Goals as goal

pub returns-clause-met : goal.returns-clause-met
unfolding range_met
returns-clause-met c = search rules
