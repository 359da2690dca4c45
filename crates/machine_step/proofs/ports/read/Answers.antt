use Rattle.std.proofs.Common.{rules}
use Rattle.machine_step.proofs.ports.read.Goals as goal

pub returns-in-Stop-clause-board : goal.returns-in-Stop-clause-board
returns-in-Stop-clause-board c = search rules

pub returns-in-Stop-clause-stopped : goal.returns-in-Stop-clause-stopped
returns-in-Stop-clause-stopped c = search rules
