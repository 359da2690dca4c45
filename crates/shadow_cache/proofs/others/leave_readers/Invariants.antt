use Rattle.std.proofs.Common.{◌≡◌, ◌≤◌, length, not}
use Rattle.frame_pool.specs.Pool.{free_list}
use Rattle.frame_pool.specs.Held.{Moves}
use Rattle.shadow_cache.specs.Pairs.{reads, frames_of}
use Rattle.shadow_cache.specs.Others.{AreKept}
use Rattle.shadow_cache.proofs.Leaving.{pruned}
use Rattle.shadow_cache.proofs.others.leave_readers.Given as goal

abbrev pub invariant-loop-left : goal.invariant-loop-left
invariant-loop-left l = record {
  few : l.left ≤ length l.fn.pairs;
  pruned : l.pairs ≡ pruned (λ p. not (reads p l.frame)) l.fn.pairs l.left;
  fewer : length (free_list l.fn.pool l.fn.ram) ≤ length (free_list l.pool l.ram);
  kept : AreKept l.pairs l.fn.ram l.ram;
  moves : Moves l.fn.pool l.pool l.fn.ram l.ram (frames_of l.fn.pairs l.fn.ram) (frames_of l.pairs l.ram);
}

abbrev pub decreases-loop-left : goal.decreases-loop-left
decreases-loop-left l = l.left
