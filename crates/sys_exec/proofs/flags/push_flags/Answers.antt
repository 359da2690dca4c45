use Rattle.std.proofs.Common.{rules}
use Rattle.sys_exec.specs.Flags.{push_flags}
use Rattle.sys_exec.proofs.flags.push_flags.Goals as goal

pub returns-in_err-push-clause-gives : goal.returns-in_err-push-clause-gives
unfolding push_flags
returns-in_err-push-clause-gives g c = search rules

pub returns-clause-gives : goal.returns-clause-gives
unfolding push_flags
returns-clause-gives g c = search rules
