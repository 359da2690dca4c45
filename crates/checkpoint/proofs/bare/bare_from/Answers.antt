use Rattle.std.proofs.Common.{rules}
use Rattle.checkpoint.proofs.bare.bare_from.Goals as goal

pub adopt-requires-clause-empty : goal.adopt-requires-clause-empty
adopt-requires-clause-empty g c = search rules
