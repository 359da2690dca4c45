use Rattle.ia32_alu.proofs.RangeRules.{subtracted, subtracted_with_borrow}
use Rattle.ia32_alu.proofs.laws.differences_in_range.Goals as goal

pub returns-clause-subtract : goal.returns-clause-subtract
returns-clause-subtract c = subtracted

pub returns-clause-with_borrow : goal.returns-clause-with_borrow
returns-clause-with_borrow c = subtracted_with_borrow
