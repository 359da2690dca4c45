use Rattle.host_cpl3.proofs.Crossing.{begins_below, each_begins_below, enters}
use Rattle.host_cpl3.proofs.Budgets.{step_entry}
use Rattle.host_cpl3.proofs.laws.borders.Goals as goal

pub returns-clause-below : goal.returns-clause-below
returns-clause-below c = begins_below

pub returns-clause-each : goal.returns-clause-each
returns-clause-each c = each_begins_below

pub returns-clause-enters : goal.returns-clause-enters
returns-clause-enters c = enters

pub returns-clause-exits : goal.returns-clause-exits
returns-clause-exits c = step_entry
