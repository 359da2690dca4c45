use Rattle.std.proofs.Common.{◌≤◌}
use Rattle.bare_machine.specs.Machine.{state_of, IsKept}
use Rattle.machine_runs.proofs.slices.prints.Given as goal

abbrev pub invariant-loop : goal.invariant-loop
invariant-loop g l = IsKept l.machine.frames (state_of (λ buffer. buffer) l.machine) × (l.machine.step ≤ l.n)
