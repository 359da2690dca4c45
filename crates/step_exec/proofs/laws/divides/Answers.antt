use Rattle.step_exec.proofs.Divided.{executed_divides}
use Rattle.step_exec.proofs.laws.divides.Goals as goal

pub returns : goal.returns
returns c = executed_divides
