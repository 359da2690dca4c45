use Rattle.std.proofs.Common.{◌≡◌, ◌≤◌, length}
use Rattle.guest_ram.specs.Among.{is_among}
use Rattle.wedge_step.specs.Clashing.{before}
use Rattle.wedge_step.proofs.clash.was_used.Given as goal

abbrev pub decreases-loop-i : goal.decreases-loop-i
decreases-loop-i l = l.i

abbrev pub invariant-loop-i : goal.invariant-loop-i
invariant-loop-i l = (l.i ≤ length l.uses) × (is_among l.page (before l.uses l.n) ≡ is_among l.page (before l.uses l.i))
