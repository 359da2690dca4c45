use Rattle.std.proofs.Common.{rules}
use Rattle.run_trace.proofs.step_items.put_step.Goals as goal

pub returns-clause-ok : goal.returns-clause-ok
returns-clause-ok g c = search rules

pub returns-clause-failed : goal.returns-clause-failed
returns-clause-failed g c = search rules
