use Rattle.pic8259.specs.Pairs.{acknowledged, vector}
use Rattle.std.proofs.Common.{rules}
use Rattle.pic8259.proofs.pics.Pics.acknowledge.Goals as goal

pub returns-clause-after : goal.returns-clause-after
unfolding vector acknowledged
returns-clause-after c = search rules
