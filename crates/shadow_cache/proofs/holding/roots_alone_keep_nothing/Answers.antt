use Rattle.shadow_cache.proofs.AloneRoots.{roots-alone}
use Rattle.shadow_cache.proofs.holding.roots_alone_keep_nothing.Goals as goal

pub returns : goal.returns
returns c = roots-alone
