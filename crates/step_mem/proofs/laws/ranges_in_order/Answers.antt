use Rattle.step_mem.proofs.Order.{ranges_in_order}
use Rattle.step_mem.proofs.laws.ranges_in_order.Goals as goal

pub returns : goal.returns
returns c = ranges_in_order
