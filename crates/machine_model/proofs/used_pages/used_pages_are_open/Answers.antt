use Rattle.machine_model.proofs.UsingSteps.{used_pages_lead_well}
use Rattle.machine_model.proofs.used_pages.used_pages_are_open.Goals as goal

pub returns : goal.returns
returns c = used_pages_lead_well
