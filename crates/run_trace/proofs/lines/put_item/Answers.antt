use Rattle.run_trace.specs.Text.{item_line}
use Rattle.std.proofs.Common.{arith}
use Rattle.std.proofs.lemmas.Grind.{common_steps}
use Rattle.run_trace.proofs.lines.put_item.Goals as goal

pub returns-clause-kept : goal.returns-clause-kept
unfolding item_line
returns-clause-kept g c = grind (arith, common_steps)
