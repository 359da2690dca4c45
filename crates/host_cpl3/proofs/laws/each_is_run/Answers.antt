use Rattle.host_cpl3.proofs.Runs as runs
use Rattle.host_cpl3.proofs.laws.each_is_run.Goals as goal

pub returns : goal.returns
returns c = runs.each_is_run
