use Rattle.machine_model.proofs.Completing.{each_done}
use Rattle.machine_model.proofs.alone.steps_are_done.Goals as goal

pub returns : goal.returns
returns c = each_done
