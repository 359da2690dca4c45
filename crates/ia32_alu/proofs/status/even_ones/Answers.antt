use Rattle.std.proofs.Common.{refl}
use Rattle.ia32_alu.proofs.status.even_ones.Goals as goal

pub returns : goal.returns
returns c = refl
