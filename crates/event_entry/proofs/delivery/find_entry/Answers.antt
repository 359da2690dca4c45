use Rattle.event_entry.specs.Deliver.{entry_of}
use Rattle.std.proofs.Common.{rules}
use Rattle.event_entry.proofs.delivery.find_entry.Goals as goal

pub returns-else-matches-2-clause-gives : goal.returns-else-matches-2-clause-gives
unfolding entry_of
returns-else-matches-2-clause-gives g c = search rules
