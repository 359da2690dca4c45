use Rattle.std.proofs.Common.{refl}
use Rattle.sys_exec.proofs.iret.is_within.Goals as goal

pub returns : goal.returns
returns c = rw c.from.ensures refl
