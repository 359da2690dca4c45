use Rattle.shadow_tables.specs.Laws.{had}
use Rattle.part_vectors.proofs.shadows.replay_one.Goals as goal

pub returns-clause-shadow : goal.returns-clause-shadow
returns-clause-shadow c = had c.replay-done.new.shadows c.replay-done.new.ram c.replay-done.ensures.stands
