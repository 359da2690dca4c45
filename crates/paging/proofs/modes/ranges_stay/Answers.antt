use Rattle.paging.proofs.Staying.{ranges_stay}
use Rattle.paging.proofs.modes.ranges_stay.Goals as goal

pub returns : goal.returns
returns c = ranges_stay
