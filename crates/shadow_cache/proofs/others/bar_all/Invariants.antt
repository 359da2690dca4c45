use Rattle.std.proofs.Common.{◌≡◌}
use Rattle.frame_pool.specs.Held.{Writes}
use Rattle.shadow_cache.specs.Pairs.{frames_of, AreShadows}
use Rattle.shadow_cache.proofs.Barring.{FirstLose}
use Rattle.shadow_cache.proofs.others.bar_all.Given as goal

abbrev pub invariant-loop-i : goal.invariant-loop-i
invariant-loop-i l = record {
  shadows : AreShadows l.pairs l.ram;
  frames : frames_of l.pairs l.ram ≡ frames_of l.pairs l.fn.ram;
  loses : FirstLose l.i l.pairs l.fn.ram l.ram l.frame;
  memory : Writes (frames_of l.pairs l.fn.ram) l.fn.ram l.ram;
}
