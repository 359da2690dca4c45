use Rattle.step_mem.proofs.Order.{fetches_in_order}
use Rattle.step_mem.proofs.laws.fetches_in_order.Goals as goal

pub returns : goal.returns
returns c = fetches_in_order
