use Rattle.std.proofs.Common.{rules}
use Rattle.sys_exec.proofs.execute.sys.Goals as goal

pub returns-in-Err-Fault-clause-does : goal.returns-in-Err-Fault-clause-does
returns-in-Err-Fault-clause-does g c = search rules
