use Rattle.std.proofs.Common.{rules}
use Rattle.pv_share.proofs.sharing.status_of_all.Goals as goal

pub returns-then-any_stopped : goal.returns-then-any_stopped
returns-then-any_stopped c = search rules
