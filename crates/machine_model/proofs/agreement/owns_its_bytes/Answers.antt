use Rattle.machine_model.proofs.Fetches.{owns_its_bytes}
use Rattle.machine_model.proofs.agreement.owns_its_bytes.Goals as goal

pub returns : goal.returns
returns c = owns_its_bytes
