use Rattle.std.proofs.Common.{rules}
use Rattle.sys_exec.proofs.table.drop_at.Goals as goal

pub returns-then-pse-clause-drops : goal.returns-then-pse-clause-drops
returns-then-pse-clause-drops c = search rules
