use Rattle.machine_model.proofs.TrackedSteps.{steps_follow}
use Rattle.machine_model.proofs.reloading.steps_follow.Goals as goal

pub returns : goal.returns
returns c = steps_follow
