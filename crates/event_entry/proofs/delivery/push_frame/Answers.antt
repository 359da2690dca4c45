use Rattle.event_entry.specs.Deliver.{push_frame}
use Rattle.std.proofs.Common.{rules}
use Rattle.event_entry.proofs.delivery.push_frame.Goals as goal

pub returns-clause-gives : goal.returns-clause-gives
unfolding push_frame
returns-clause-gives g c = search rules
