use Rattle.machine_model.proofs.TrackedSteps.{steps_keep_memory, others_stay}
use Rattle.machine_model.proofs.reloading.memory_follows.Goals as goal

pub returns : goal.returns
returns c = record { words = steps_keep_memory; others = others_stay }
