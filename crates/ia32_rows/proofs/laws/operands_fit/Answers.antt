use Rattle.ia32_rows.proofs.OperandLaws as operands
use Rattle.ia32_rows.proofs.laws.operands_fit.Goals as goal

pub returns : goal.returns
returns c = operands.operands_fit
