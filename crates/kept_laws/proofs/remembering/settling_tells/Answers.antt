use Rattle.kept_laws.proofs.Settling.{settling_tells, dropped_comes_from}
use Rattle.kept_laws.proofs.remembering.settling_tells.Goals as goal

pub returns : goal.returns
returns c = record { told = settling_tells; dropped = dropped_comes_from }
