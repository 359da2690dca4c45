use Rattle.shadow_tables.specs.Laws.{had}
use Rattle.shadow_tables.proofs.shadows.ShadowShadows.fill.Goals as goal

pub fill-requires-clause-shadow : goal.fill-requires-clause-shadow
fill-requires-clause-shadow c = had c.args.self.now c.args.ram.now c.requires.stands
