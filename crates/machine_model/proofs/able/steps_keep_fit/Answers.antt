use Rattle.machine_model.proofs.FitSteps.{each_keeps_fit}
use Rattle.machine_model.proofs.able.steps_keep_fit.Goals as goal

pub returns : goal.returns
returns c = each_keeps_fit c.system_flags_stay.ensures.insensitive
