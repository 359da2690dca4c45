use Rattle.shadow_cache.specs.Past.{pairs_after}
use Rattle.shadow_cache.proofs.Told.{pasts-of}
use Rattle.shadow_cache.proofs.coming_back.pairs_are_as_told.Goals as goal

pub returns : goal.returns
returns c = λ value calls ps m a. pasts-of value calls (pairs_after value calls) ps m a
