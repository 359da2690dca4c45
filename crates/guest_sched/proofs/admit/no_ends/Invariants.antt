use Rattle.std.proofs.Common.{◌≤◌, ◌-◌, length}
use Rattle.guest_sched.proofs.admit.no_ends.Given as goal

abbrev pub invariant-loop-none : goal.invariant-loop-none
invariant-loop-none l = length l.ended.items ≤ l.count

abbrev pub decreases-loop-none : goal.decreases-loop-none
decreases-loop-none l = l.count - length l.ended.items
