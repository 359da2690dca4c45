use Rattle.afterburner.specs.Instructions.{added}
use Rattle.std.proofs.Common.{rules}
use Rattle.afterburner.proofs.assembly.Assembly.add.Goals as goal

pub returns : goal.returns
unfolding added
returns c = search rules
