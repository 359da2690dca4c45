use Rattle.machine_model.proofs.KeptOver.{runs_fit}
use Rattle.machine_model.proofs.able.runs_keep_fit.Goals as goal

pub returns : goal.returns
returns c = runs_fit c.steps_keep_fit.ensures
