use Rattle.kept_laws.proofs.OwedStays.{steps_remember, same_remembers}
use Rattle.kept_laws.proofs.remembering.steps_remember.Goals as goal

pub returns : goal.returns
returns c = record { settled = steps_remember; same = same_remembers }
