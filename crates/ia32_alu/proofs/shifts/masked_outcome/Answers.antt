use Rattle.std.proofs.Common.{rules}
use Rattle.ia32_alu.proofs.shifts.masked_outcome.Goals as goal

pub returns-then-count-eq0-clause-all : goal.returns-then-count-eq0-clause-all
returns-then-count-eq0-clause-all c = search rules
