use Rattle.std.proofs.Common.{arith}
use Rattle.std.proofs.lemmas.Grind.{common_steps}
use Rattle.sys_exec.specs.Operand.{operand_reached}
use Rattle.sys_exec.proofs.operand.reach_operand.Goals as goal

pub returns-clause-gives : goal.returns-clause-gives
unfolding operand_reached
returns-clause-gives g c = grind (arith, common_steps)
