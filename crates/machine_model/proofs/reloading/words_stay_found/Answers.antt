use Rattle.machine_model.proofs.TrackedSteps.{words_stay_found}
use Rattle.machine_model.proofs.reloading.words_stay_found.Goals as goal

pub returns : goal.returns
returns c = words_stay_found
