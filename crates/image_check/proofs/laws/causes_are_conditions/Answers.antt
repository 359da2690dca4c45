-- The lemma for each cause.
use Rattle.image_check.proofs.ReasonLaws.{wrong_is}
use Rattle.image_check.proofs.laws.causes_are_conditions.Goals as goal

pub returns : goal.returns
returns c = wrong_is
