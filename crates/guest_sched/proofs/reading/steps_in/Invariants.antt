use Rattle.std.proofs.Common.{◌≡◌, ◌+◌, drop}
use Rattle.guest_sched.specs.Bounds.{bound_of}
use Rattle.guest_sched.proofs.reading.steps_in.Given as goal

abbrev pub invariant-loop-slice : goal.invariant-loop-slice
invariant-loop-slice l = l.steps + bound_of l.kernel (drop l.slice-index l.slices) ≡ bound_of l.kernel l.slices
