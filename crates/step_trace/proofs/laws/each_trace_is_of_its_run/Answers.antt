use Rattle.step_trace.proofs.OneRun as one
use Rattle.step_trace.proofs.laws.each_trace_is_of_its_run.Goals as goal

pub returns-clause-runs : goal.returns-clause-runs
returns-clause-runs c = one.each_trace_is_of_its_run

pub returns-clause-bare : goal.returns-clause-bare
returns-clause-bare c = one.each_trace_is_of_the_bare_run
