use Rattle.afterburner.proofs.Refusal.{one_first}
use Rattle.afterburner.proofs.laws.one_refusal_comes_first.Goals as goal

pub returns : goal.returns
returns c = λ items line other cause second v w. one_first items line other cause second v w
