use Rattle.ia32_alu.proofs.CompareRules.{compared}
use Rattle.ia32_alu.proofs.laws.comparisons.Goals as goal

pub returns : goal.returns
returns c = compared
