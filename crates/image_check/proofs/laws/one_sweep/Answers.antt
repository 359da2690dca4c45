use Rattle.image_check.proofs.SweepLaws.{sweep_exact, stop_exact}
use Rattle.image_check.proofs.laws.one_sweep.Goals as goal

pub returns-clause-sweep : goal.returns-clause-sweep
returns-clause-sweep c = sweep_exact

pub returns-clause-stop : goal.returns-clause-stop
returns-clause-stop c = stop_exact
