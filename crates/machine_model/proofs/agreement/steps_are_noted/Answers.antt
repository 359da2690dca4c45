use Rattle.machine_model.proofs.Written.{writes_are_noted}
use Rattle.machine_model.proofs.Walked.{walks_are_noted}
use Rattle.machine_model.proofs.agreement.steps_are_noted.Goals as goal

pub returns : goal.returns
returns c = record { writes = writes_are_noted; walks = walks_are_noted }
