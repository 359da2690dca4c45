use Rattle.pv_tasks.proofs.Faults.{ends_same, ends_written}
use Rattle.std.proofs.Common.{arith}
use Rattle.std.proofs.lemmas.Grind.{common_steps}
use Rattle.pv_tasks.proofs.delivery.deliver.Goals as goal

pub returns-in-Err-Failed-clause-delivers : goal.returns-in-Err-Failed-clause-delivers
returns-in-Err-Failed-clause-delivers g c = grind (arith, common_steps, ends_same, ends_written)

pub returns-in-Err-Memory-clause-delivers : goal.returns-in-Err-Memory-clause-delivers
returns-in-Err-Memory-clause-delivers g c = grind (arith, common_steps, ends_same, ends_written)

pub returns-in-Err-Memory-clause-ends : goal.returns-in-Err-Memory-clause-ends
returns-in-Err-Memory-clause-ends g c = grind (arith, common_steps, ends_same, ends_written)
