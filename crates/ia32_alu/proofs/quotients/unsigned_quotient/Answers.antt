use Rattle.ia32_alu.specs.Quotient.{unsigned_quotient}
use Rattle.std.proofs.Common.{rules}
use Rattle.ia32_alu.proofs.quotients.unsigned_quotient.Goals as goal

pub returns-else-quotient-span-clause-all : goal.returns-else-quotient-span-clause-all
unfolding unsigned_quotient
returns-else-quotient-span-clause-all c = search rules
