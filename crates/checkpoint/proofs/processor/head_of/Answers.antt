use Rattle.checkpoint.specs.States.{head_of}
use Rattle.std.proofs.Common.{rules}
use Rattle.checkpoint.proofs.processor.head_of.Goals as goal

pub returns-clause-head : goal.returns-clause-head
unfolding head_of
returns-clause-head c = search rules
