use Rattle.host_cpl3.specs.Permit.{permitted}
use Rattle.std.proofs.Common.{rules}
use Rattle.host_cpl3.proofs.permit.permitted.Goals as goal

pub returns-in_default : goal.returns-in_default
unfolding permitted
returns-in_default c = search rules
