use Rattle.pic8259.specs.Pairs.{vector}
use Rattle.std.proofs.Common.{rules}
use Rattle.pic8259.proofs.pics.Pics.pending.Goals as goal

pub returns-then-level-eq2 : goal.returns-then-level-eq2
unfolding vector
returns-then-level-eq2 c = search rules
