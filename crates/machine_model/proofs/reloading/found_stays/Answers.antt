use Rattle.machine_model.proofs.FoundStill.{found_still}
use Rattle.machine_model.proofs.TrackedSteps.{found_are_cacheable}
use Rattle.machine_model.proofs.reloading.found_stays.Goals as goal

pub returns : goal.returns
returns c = record { stays = found_still; cacheable = found_are_cacheable }
