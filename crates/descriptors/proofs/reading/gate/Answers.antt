use Rattle.std.proofs.Common.{rules}
use Rattle.descriptors.proofs.reading.gate.Goals as goal

pub returns-then-kind-eq15 : goal.returns-then-kind-eq15
returns-then-kind-eq15 c = search rules
