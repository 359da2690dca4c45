use Rattle.ia32_alu.proofs.RangeRules.{added, added_with_carry}
use Rattle.ia32_alu.proofs.laws.sums_in_range.Goals as goal

pub returns-clause-add : goal.returns-clause-add
returns-clause-add c = added

pub returns-clause-with_carry : goal.returns-clause-with_carry
returns-clause-with_carry c = added_with_carry
