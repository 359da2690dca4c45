use Rattle.shadow_cache.proofs.Gone.{pairs-leave}
use Rattle.shadow_cache.proofs.coming_back.pairs_leave.Goals as goal

pub returns : goal.returns
returns c = pairs-leave
