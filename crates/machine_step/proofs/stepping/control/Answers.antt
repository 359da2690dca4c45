use Rattle.std.proofs.Common.{rules}
use Rattle.machine_step.proofs.stepping.control.Goals as goal

pub returns : goal.returns
returns c = search rules
