use Rattle.std.proofs.Common.{rules}
use Rattle.paging.proofs.walking.entry_of.Goals as goal

pub returns : goal.returns
returns c = search rules
