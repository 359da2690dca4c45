use Rattle.shadow_tables.specs.Laws.{had}
use Rattle.shadow_tables.proofs.shadows.ShadowShadows.kept.Goals as goal

pub kept-requires-clause-shadow : goal.kept-requires-clause-shadow
kept-requires-clause-shadow c = had c.args.self.now c.args.ram.now c.requires.stands
