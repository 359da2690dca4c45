use Rattle.ia32_alu.proofs.QuotientRules.{only_division}
use Rattle.ia32_alu.proofs.laws.quotients_found.Goals as goal

pub returns : goal.returns
returns c = only_division
