use Rattle.std.proofs.Common.{rules}
use Rattle.trace_check.proofs.course.addable.Goals as goal

pub returns-then-word-eq1-clause-found : goal.returns-then-word-eq1-clause-found
returns-then-word-eq1-clause-found g c = search rules

pub returns-else-dir-eq1-clause-found : goal.returns-else-dir-eq1-clause-found
returns-else-dir-eq1-clause-found g c = search rules
