use Rattle.shadow_cache.proofs.Whole.{pairs-few, pairs-apart, pairs-present}
use Rattle.shadow_cache.proofs.Places.{pairs-placed}
use Rattle.shadow_cache.proofs.coming_back.pairs_are_apart.Goals as goal

pub returns : goal.returns
returns c = record { few = pairs-few; apart = pairs-apart; present = pairs-present; placed = pairs-placed }
