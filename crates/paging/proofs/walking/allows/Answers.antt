use Rattle.std.proofs.Common.{rules}
use Rattle.paging.proofs.walking.allows.Goals as goal

pub returns-else-not-access : goal.returns-else-not-access
returns-else-not-access c = search rules
