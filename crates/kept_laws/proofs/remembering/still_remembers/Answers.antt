use Rattle.kept_laws.proofs.OwedStays.{still_remembers}
use Rattle.kept_laws.proofs.remembering.still_remembers.Goals as goal

pub returns : goal.returns
returns c = still_remembers
