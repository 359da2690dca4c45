use Rattle.std.proofs.Common.{rules}
use Rattle.descriptors.proofs.access.by_processor.Goals as goal

pub returns : goal.returns
returns c = search rules
