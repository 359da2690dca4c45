use Rattle.image_check.proofs.FrontSites.{none_found, insensitive_first, pair_first, alone_first, lacking_first}
use Rattle.image_check.proofs.laws.sites_from_the_front.Goals as goal

pub returns-clause-none : goal.returns-clause-none
returns-clause-none c = none_found

pub returns-clause-insensitive : goal.returns-clause-insensitive
returns-clause-insensitive c = insensitive_first

pub returns-clause-pair : goal.returns-clause-pair
returns-clause-pair c = pair_first

pub returns-clause-alone : goal.returns-clause-alone
returns-clause-alone c = alone_first

pub returns-clause-lacking : goal.returns-clause-lacking
returns-clause-lacking c = lacking_first
