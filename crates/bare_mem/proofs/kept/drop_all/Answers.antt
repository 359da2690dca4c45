use Rattle.bare_mem.proofs.Parts.{all_gone}
use Rattle.bare_mem.proofs.kept.drop_all.Goals as goal

pub returns-clause-gone : goal.returns-clause-gone
returns-clause-gone g c = all_gone _ c.drop_all.ensures.gone
