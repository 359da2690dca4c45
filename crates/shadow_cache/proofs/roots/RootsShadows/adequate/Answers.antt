use Rattle.shadow_cache.specs.Standing.{stood}
use Rattle.shadow_cache.proofs.roots.RootsShadows.adequate.Goals as goal

pub adequate-requires-clause-shadow : goal.adequate-requires-clause-shadow
adequate-requires-clause-shadow c = (stood c.args.self.now c.args.ram.now c.requires.stands).roots.shadows.0
