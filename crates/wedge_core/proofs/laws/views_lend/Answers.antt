use Rattle.wedge_core.proofs.Lending.{lends_of}
use Rattle.wedge_core.proofs.Seeing.{sees}
use Rattle.wedge_core.proofs.laws.views_lend.Goals as goal

pub returns-clause-lends : goal.returns-clause-lends
returns-clause-lends c = lends_of

pub returns-clause-sees : goal.returns-clause-sees
returns-clause-sees c = sees
