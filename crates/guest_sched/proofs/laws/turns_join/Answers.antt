use Rattle.guest_sched.proofs.Legs.{runs_on, stops_on}
use Rattle.guest_sched.proofs.laws.turns_join.Goals as goal

pub returns-clause-join : goal.returns-clause-join
returns-clause-join c = runs_on

pub returns-clause-stops : goal.returns-clause-stops
returns-clause-stops c = stops_on
