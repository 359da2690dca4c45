use Rattle.std.proofs.Common.{rules}
use Rattle.asm_argument.proofs.address.is_scale.Goals as goal

pub returns-then-n-eq4 : goal.returns-then-n-eq4
returns-then-n-eq4 c = search rules
