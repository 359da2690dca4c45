use Rattle.std.proofs.Common.{rules}
use Rattle.wedge_mem.proofs.filling.serves.Goals as goal

pub returns-then-permits : goal.returns-then-permits
returns-then-permits g c = search rules

pub returns-else-permits : goal.returns-else-permits
returns-else-permits g c = search rules
