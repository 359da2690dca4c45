use Rattle.ia32_decode.proofs.Whole.{reads_back}
use Rattle.ia32_decode.proofs.Exact.{decoded_back}
use Rattle.ia32_decode.proofs.laws.reads_back.Goals as goal

pub returns-clause-begins : goal.returns-clause-begins
returns-clause-begins c = reads_back

pub returns-clause-answer : goal.returns-clause-answer
returns-clause-answer c = decoded_back
