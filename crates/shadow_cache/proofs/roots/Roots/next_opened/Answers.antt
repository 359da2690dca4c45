use Rattle.shadow_cache.specs.Standing.{stood}
use Rattle.shadow_cache.proofs.roots.Roots.next_opened.Goals as goal

pub next_opened-requires-clause-shadow : goal.next_opened-requires-clause-shadow
next_opened-requires-clause-shadow c = (stood c.args.self.now c.args.ram.now c.requires.stands).roots.shadows.0
