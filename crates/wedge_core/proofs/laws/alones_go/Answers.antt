use Rattle.wedge_core.proofs.Counting.{each_goes}
use Rattle.wedge_core.proofs.laws.alones_go.Goals as goal

pub returns : goal.returns
returns c = each_goes c.steps_are_done.ensures c.others_count_nothing.ensures.waits c.others_count_nothing.ensures.sites
