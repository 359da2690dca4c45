use Rattle.machine_model.proofs.Works.{runs_agree}
use Rattle.machine_model.proofs.agreement.runs_agree.Goals as goal

pub returns : goal.returns
returns c = runs_agree c.steps_agree.ensures
