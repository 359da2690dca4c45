use Rattle.machine_step.proofs.Divided.{divides}
use Rattle.machine_step.proofs.laws.plain_divides.Goals as goal

pub returns : goal.returns
returns c = divides
