use Rattle.pv_tool.proofs.MovingLaws.{moves_are_one_run}
use Rattle.pv_tool.proofs.laws.moved.Goals as goal

pub returns : goal.returns
returns c = moves_are_one_run c.legs_are_a_run.ensures.run c.legs_are_a_run.ensures.parts
