use Rattle.paging.specs.Space.{loaded}
use Rattle.std.proofs.Common.{arith, rules}
use Rattle.std.proofs.lemmas.Grind.{common_steps}
use Rattle.step_exec.proofs.view.ViewLinearBytes.byte.Goals as goal

pub read_earlier-requires : goal.read_earlier-requires
unfolding loaded
read_earlier-requires g c = search rules

pub read-requires : goal.read-requires
unfolding loaded
read-requires g c = search rules

pub returns-clause-value : goal.returns-clause-value
unfolding loaded
returns-clause-value g c = grind (arith, common_steps)
