use Rattle.machine_model.proofs.AbleSteps.{each_keeps}
use Rattle.machine_model.proofs.able.steps_keep_able.Goals as goal

pub returns : goal.returns
returns c = each_keeps c.system_flags_stay.ensures.insensitive
