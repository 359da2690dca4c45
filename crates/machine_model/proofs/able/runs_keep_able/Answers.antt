use Rattle.machine_model.proofs.KeptOver.{runs_able}
use Rattle.machine_model.proofs.able.runs_keep_able.Goals as goal

pub returns : goal.returns
returns c = runs_able c.steps_keep_able.ensures
