use Rattle.paging.specs.Fresh.{fresh}
use Rattle.std.proofs.Common.{rules}
use Rattle.paging.proofs.walking.walk.Goals as goal

pub returns-then-entry-frames-clause-walk : goal.returns-then-entry-frames-clause-walk
unfolding fresh
returns-then-entry-frames-clause-walk g c = search rules

pub returns-then-dir-eq1-clause-walk : goal.returns-then-dir-eq1-clause-walk
unfolding fresh
returns-then-dir-eq1-clause-walk g c = search rules
