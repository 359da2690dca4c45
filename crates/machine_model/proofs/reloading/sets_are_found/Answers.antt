use Rattle.machine_model.proofs.TrackedSteps.{sets_are_found}
use Rattle.machine_model.proofs.reloading.sets_are_found.Goals as goal

pub returns : goal.returns
returns c = sets_are_found
