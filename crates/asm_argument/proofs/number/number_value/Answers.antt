use Rattle.std.proofs.Common.{arith}
use Rattle.std.proofs.lemmas.Grind.{common_steps}
use Rattle.asm_argument.proofs.number.number_value.Goals as goal

pub returns-else-second-eq120 : goal.returns-else-second-eq120
returns-else-second-eq120 c = grind (arith, common_steps)
