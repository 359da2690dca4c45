use Rattle.kept_laws.proofs.FoundStays.{found_at_start, found_goes_on}
use Rattle.kept_laws.proofs.judging.found_goes_on.Goals as goal

pub returns : goal.returns
returns c = record { start = found_at_start; on = found_goes_on c.words_stay_found.ensures }
