use Rattle.shadow_tables.specs.Laws.{had}
use Rattle.shadow_tables.proofs.shadows.ShadowShadows.drop_page.Goals as goal

pub drop_page-requires-clause-shadow : goal.drop_page-requires-clause-shadow
drop_page-requires-clause-shadow c = had c.args.self.now c.args.ram.now c.requires.stands
