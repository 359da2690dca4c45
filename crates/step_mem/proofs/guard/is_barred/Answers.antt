use Rattle.std.proofs.Common.{arith}
use Rattle.std.proofs.lemmas.Grind.{common_steps}
use Rattle.step_mem.proofs.guard.is_barred.Goals as goal

pub returns : goal.returns
returns c = grind (arith, common_steps)
