use Rattle.bare_machine.specs.Machine.{state_of, IsKept}
use Rattle.machine_runs.specs.Going.{IsGoing}
use Rattle.machine_runs.proofs.guests.step_alike.Given as goal

abbrev pub invariant-loop-step : goal.invariant-loop-step
invariant-loop-step g l =
    IsKept l.bare.frames (state_of (λ buffer. buffer) l.bare) × IsGoing l.image l.guest l.pool l.host.ram
