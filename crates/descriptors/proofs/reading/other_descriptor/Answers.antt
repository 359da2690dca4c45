use Rattle.std.proofs.Common.{rules}
use Rattle.descriptors.proofs.reading.other_descriptor.Goals as goal

pub returns : goal.returns
returns c = search rules
