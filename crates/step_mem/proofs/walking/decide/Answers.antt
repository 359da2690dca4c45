use Rattle.paging.specs.Uses.{decided}
use Rattle.std.proofs.Common.{rules}
use Rattle.step_mem.proofs.walking.decide.Goals as goal

pub returns-then-entry-clause-decided : goal.returns-then-entry-clause-decided
unfolding decided
returns-then-entry-clause-decided c = search rules

pub returns-else-entry-clause-decided : goal.returns-else-entry-clause-decided
unfolding decided
returns-else-entry-clause-decided c = search rules
