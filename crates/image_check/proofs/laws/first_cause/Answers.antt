use Rattle.image_check.proofs.CauseLaws.{first_exact}
use Rattle.image_check.proofs.laws.first_cause.Goals as goal

pub returns : goal.returns
returns c = first_exact
