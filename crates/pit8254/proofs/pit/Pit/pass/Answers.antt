use Rattle.pit8254.proofs.Runs.{passing}
use Rattle.pit8254.specs.Counts.{IsAfter}
use Rattle.std.proofs.Common.{rules}
use Rattle.pit8254.proofs.pit.Pit.pass.Goals as goal

pub returns-in-Some-clause-edge : goal.returns-in-Some-clause-edge
unfolding IsAfter
returns-in-Some-clause-edge c = search (rules, passing)
