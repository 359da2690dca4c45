use Rattle.kept_laws.proofs.OwedStays.{dropped_remembers}
use Rattle.kept_laws.proofs.remembering.dropped_remembers.Goals as goal

pub returns : goal.returns
returns c = dropped_remembers
