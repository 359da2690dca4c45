use Rattle.ia32_exec.proofs.EipAfter.{goes_on}
use Rattle.ia32_exec.proofs.after.eip_goes_on.Goals as goal

pub returns : goal.returns
returns c = goes_on
