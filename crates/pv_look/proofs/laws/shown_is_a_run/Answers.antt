use Rattle.pv_look.proofs.OneRun as one
use Rattle.pv_look.proofs.laws.shown_is_a_run.Goals as goal

pub returns-clause-run : goal.returns-clause-run
returns-clause-run c = one.shown_is_a_run

pub returns-clause-bare : goal.returns-clause-bare
returns-clause-bare c = one.shown_is_the_bare_run

pub returns-clause-stop : goal.returns-clause-stop
returns-clause-stop c = one.stop_is_of_the_bare_run
