use Rattle.trace_check.proofs.Running.{yes_is_a_run, yes_before_is_steps}
use Rattle.trace_check.proofs.laws.judgements_are_runs.Goals as goal

pub returns-clause-yes : goal.returns-clause-yes
returns-clause-yes c = yes_is_a_run

pub returns-clause-before : goal.returns-clause-before
returns-clause-before c = yes_before_is_steps
