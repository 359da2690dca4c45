-- The lemma for all causes in their order.
use Rattle.image_check.proofs.ReasonLaws.{refused_exact}
use Rattle.image_check.proofs.laws.refused_in_order.Goals as goal

pub returns : goal.returns
returns c = refused_exact
