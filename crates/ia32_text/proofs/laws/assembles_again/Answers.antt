use Rattle.ia32_text.proofs.Law.{spelled_again, assembled_again}
use Rattle.ia32_text.proofs.laws.assembles_again.Goals as goal

pub returns-clause-spelled : goal.returns-clause-spelled
returns-clause-spelled c = spelled_again

pub returns-clause-assembled : goal.returns-clause-assembled
returns-clause-assembled c = assembled_again
