use Rattle.std.proofs.Common.{rules}
use Rattle.pv_build.proofs.telling.tell_run.Goals as goal

pub returns-in-Stopped : goal.returns-in-Stopped
returns-in-Stopped g c = search rules
