use Rattle.step_exec.proofs.Works.{plain_agrees}
use Rattle.step_exec.proofs.agreement.plain_agrees.Goals as goal

pub returns : goal.returns
returns c = plain_agrees
