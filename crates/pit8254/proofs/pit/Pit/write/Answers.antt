use Rattle.pit8254.specs.Timers.{control_word_written, written}
use Rattle.std.proofs.Common.{rules}
use Rattle.pit8254.proofs.pit.Pit.write.Goals as goal

pub returns-in-AwaitsControlWord-clause-written : goal.returns-in-AwaitsControlWord-clause-written
unfolding written control_word_written
returns-in-AwaitsControlWord-clause-written c = search rules

pub returns-else-period-eq1-clause-written : goal.returns-else-period-eq1-clause-written
unfolding written control_word_written
returns-else-period-eq1-clause-written c = search rules
