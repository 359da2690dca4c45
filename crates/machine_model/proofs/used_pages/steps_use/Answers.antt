use Rattle.machine_model.proofs.UsingSteps.{steps_use}
use Rattle.machine_model.proofs.used_pages.steps_use.Goals as goal

pub returns : goal.returns
returns c = steps_use
