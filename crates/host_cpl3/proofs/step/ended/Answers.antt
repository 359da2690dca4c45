use Rattle.std.proofs.Common.{rules}
use Rattle.host_cpl3.proofs.step.ended.Goals as goal

pub returns-then-is_entry : goal.returns-then-is_entry
returns-then-is_entry c = search rules
