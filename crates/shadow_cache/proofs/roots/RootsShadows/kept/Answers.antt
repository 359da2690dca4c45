use Rattle.shadow_cache.specs.Standing.{stood}
use Rattle.shadow_cache.proofs.roots.RootsShadows.kept.Goals as goal

pub kept-requires-clause-shadow : goal.kept-requires-clause-shadow
kept-requires-clause-shadow c = (stood c.args.self.now c.args.ram.now c.requires.stands).roots.shadows.0
