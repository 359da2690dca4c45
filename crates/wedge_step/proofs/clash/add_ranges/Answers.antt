use Rattle.std.proofs.Common.{arith}
use Rattle.std.proofs.lemmas.Grind.{common_steps}
use Rattle.wedge_step.proofs.clash.add_ranges.Goals as goal

pub returns-clause-uses : goal.returns-clause-uses
returns-clause-uses c = grind (arith, common_steps)
