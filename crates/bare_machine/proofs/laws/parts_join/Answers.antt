use Rattle.bare_machine.proofs.Joining.{begins_here, slice_goes_on, change_goes_on, loss_goes_on, parts_are_a_run}
use Rattle.bare_machine.proofs.laws.parts_join.Goals as goal

pub returns-clause-begins : goal.returns-clause-begins
returns-clause-begins c = begins_here

pub returns-clause-slices : goal.returns-clause-slices
returns-clause-slices c = slice_goes_on

pub returns-clause-changes : goal.returns-clause-changes
returns-clause-changes c = change_goes_on

pub returns-clause-losses : goal.returns-clause-losses
returns-clause-losses c = loss_goes_on

pub returns-clause-run : goal.returns-clause-run
returns-clause-run c = parts_are_a_run
