use Rattle.std.proofs.Common.{length}
use Rattle.frame_pool.specs.Held.{Moves}
use Rattle.shadow_cache.specs.Pairs.{frames_of, AreShadows}
use Rattle.shadow_cache.proofs.others.leave_all.Given as goal

abbrev pub invariant-loop-pairs : goal.invariant-loop-pairs
invariant-loop-pairs l = record {
  shadows : AreShadows l.pairs l.ram;
  moves : Moves l.fn.pool l.pool l.fn.ram l.ram (frames_of l.fn.pairs l.fn.ram) (frames_of l.pairs l.ram);
}

abbrev pub decreases-loop-pairs : goal.decreases-loop-pairs
decreases-loop-pairs l = length l.pairs
