use Rattle.image_laws.proofs.WaysOn.{start_below, next_address, branch_address, linear_place, not_start_exact, site_same}
use Rattle.image_laws.proofs.closure.addresses.Goals as goal

pub returns-clause-next : goal.returns-clause-next
returns-clause-next c = next_address

pub returns-clause-branch : goal.returns-clause-branch
returns-clause-branch c = branch_address

pub returns-clause-place : goal.returns-clause-place
returns-clause-place c = linear_place

pub returns-clause-not_a_start : goal.returns-clause-not_a_start
returns-clause-not_a_start c = not_start_exact

pub returns-clause-in_site : goal.returns-clause-in_site
returns-clause-in_site c = site_same

pub returns-clause-start : goal.returns-clause-start
returns-clause-start c = start_below
