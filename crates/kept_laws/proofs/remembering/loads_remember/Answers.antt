use Rattle.kept_laws.proofs.OwedStays.{loads_remember, loads_bring_back}
use Rattle.kept_laws.proofs.remembering.loads_remember.Goals as goal

pub returns : goal.returns
returns c = record { remember = loads_remember; back = loads_bring_back }
