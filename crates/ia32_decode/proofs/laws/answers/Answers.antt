use Rattle.ia32_decode.proofs.Exact.{answered}
use Rattle.ia32_decode.proofs.laws.answers.Goals as goal

pub returns : goal.returns
returns c = answered
