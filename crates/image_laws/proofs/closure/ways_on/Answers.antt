use Rattle.image_laws.proofs.WaysOn.{next_start, next_outside, branch_way, here_way, site_way, entry_way, way_place}
use Rattle.image_laws.proofs.closure.ways_on.Goals as goal

pub returns-clause-next : goal.returns-clause-next
returns-clause-next c = next_start

pub returns-clause-next_outside : goal.returns-clause-next_outside
returns-clause-next_outside c = next_outside

pub returns-clause-branch : goal.returns-clause-branch
returns-clause-branch c = branch_way

pub returns-clause-place : goal.returns-clause-place
returns-clause-place c = way_place

pub returns-clause-here : goal.returns-clause-here
returns-clause-here c = here_way

pub returns-clause-site : goal.returns-clause-site
returns-clause-site c = site_way

pub returns-clause-entry : goal.returns-clause-entry
returns-clause-entry c = entry_way
