use Rattle.ia32_alu.proofs.QuotientRules.{unsigned_division, signed_division}
use Rattle.ia32_alu.proofs.laws.divisions.Goals as goal

pub returns-clause-unsigned : goal.returns-clause-unsigned
returns-clause-unsigned c = unsigned_division

pub returns-clause-signed : goal.returns-clause-signed
returns-clause-signed c = signed_division
