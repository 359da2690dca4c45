use Rattle.std.proofs.Common.{rules}
use Rattle.image_load.proofs.tables.Goals as goal

pub returns-clause-words : goal.returns-clause-words
returns-clause-words c = search rules
