use Rattle.machine_model.proofs.Runs.{kept_on, kept_before}
use Rattle.machine_model.proofs.joined.kept_on.Goals as goal

pub returns : goal.returns
returns c = record { on = kept_on; before = kept_before }
