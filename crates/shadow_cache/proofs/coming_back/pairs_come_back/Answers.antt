use Rattle.shadow_cache.proofs.Away.{pairs-come_back}
use Rattle.shadow_cache.proofs.coming_back.pairs_come_back.Goals as goal

pub returns : goal.returns
returns c = pairs-come_back
