use Rattle.std.proofs.Common.{rules}
use Rattle.pic8259.proofs.level.unblocked.Goals as goal

pub returns-then-level-served : goal.returns-then-level-served
returns-then-level-served c = search rules
