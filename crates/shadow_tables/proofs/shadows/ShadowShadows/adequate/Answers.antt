use Rattle.shadow_tables.specs.Laws.{had}
use Rattle.shadow_tables.proofs.shadows.ShadowShadows.adequate.Goals as goal

pub adequate-requires-clause-shadow : goal.adequate-requires-clause-shadow
adequate-requires-clause-shadow c = had c.args.self.now c.args.ram.now c.requires.stands
