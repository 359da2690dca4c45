use Rattle.descriptors.specs.Access.{byte_set}
use Rattle.std.proofs.Common.{rules}
use Rattle.descriptors.proofs.access.set_byte.Goals as goal

pub returns-clause-gives : goal.returns-clause-gives
unfolding byte_set
returns-clause-gives g c = search rules
