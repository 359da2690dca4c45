use Rattle.ia32_rows.specs.Fields.{disp_at}
use Rattle.std.proofs.Common.{rules}
use Rattle.ia32_decode.proofs.fields.displacement.Goals as goal

pub returns-in_ok-disp-in-1 : goal.returns-in_ok-disp-in-1
unfolding disp_at
returns-in_ok-disp-in-1 c = search rules
