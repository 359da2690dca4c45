use Rattle.std.proofs.Common.{◌≤◌}
use Rattle.machine_runs.specs.Going.{IsGoing}
use Rattle.machine_runs.proofs.guests.prints.Given as goal

abbrev pub invariant-loop : goal.invariant-loop
invariant-loop g l = IsGoing l.image l.guest l.pool l.host.ram × (l.guest.step ≤ l.n)
