use Rattle.std.proofs.Common.{arith}
use Rattle.std.proofs.lemmas.Grind.{common_steps}
use Rattle.event_entry.proofs.delivery.deliver.Goals as goal

pub returns-clause-gives : goal.returns-clause-gives
returns-clause-gives g c = grind (arith, common_steps)
