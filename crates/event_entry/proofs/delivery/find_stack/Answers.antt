use Rattle.event_entry.specs.Deliver.{stack_of}
use Rattle.std.proofs.Common.{arith}
use Rattle.std.proofs.lemmas.Grind.{common_steps}
use Rattle.event_entry.proofs.delivery.find_stack.Goals as goal

pub returns-clause-gives : goal.returns-clause-gives
unfolding stack_of
returns-clause-gives g c = grind (arith, common_steps)
