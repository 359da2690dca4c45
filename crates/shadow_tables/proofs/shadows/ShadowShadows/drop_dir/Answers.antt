use Rattle.shadow_tables.specs.Laws.{had}
use Rattle.shadow_tables.proofs.shadows.ShadowShadows.drop_dir.Goals as goal

pub drop_dir-requires-clause-shadow : goal.drop_dir-requires-clause-shadow
drop_dir-requires-clause-shadow c = had c.args.self.now c.args.ram.now c.requires.stands
