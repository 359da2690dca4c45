use Rattle.machine_model.proofs.Runs.{steps_are_taken}
use Rattle.machine_model.proofs.joined.steps_are_taken.Goals as goal

pub returns : goal.returns
returns c = steps_are_taken
