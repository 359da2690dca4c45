use Rattle.kept_laws.proofs.OwedStays.{start_remembers}
use Rattle.kept_laws.proofs.remembering.start_remembers.Goals as goal

pub returns : goal.returns
returns c = start_remembers
