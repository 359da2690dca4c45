use Rattle.run_trace.specs.Text.{end_line}
use Rattle.std.proofs.Common.{rules}
use Rattle.run_trace.proofs.lines.put_end.Goals as goal

pub returns-clause-ok : goal.returns-clause-ok
unfolding end_line
returns-clause-ok g c = search rules

pub returns-clause-failed : goal.returns-clause-failed
unfolding end_line
returns-clause-failed g c = search rules
