use Rattle.shadow_tables.specs.Laws.{had}
use Rattle.shadow_tables.proofs.shadows.ShadowShadows.drop_all.Goals as goal

pub drop_all-requires-clause-shadow : goal.drop_all-requires-clause-shadow
drop_all-requires-clause-shadow c = had c.args.self.now c.args.ram.now c.requires.stands
