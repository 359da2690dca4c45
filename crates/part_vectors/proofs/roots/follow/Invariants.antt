use Rattle.frame_pool.specs.Held.{Owns}
use Rattle.shadow_cache.specs.Pairs.{frames_of}
use Rattle.shadow_cache.specs.Roots.{pairs_of, IsStanding}
use Rattle.part_vectors.proofs.roots.follow.Given as goal

abbrev pub invariant-loop-row : goal.invariant-loop-row
invariant-loop-row g l = record {
  stands : ∥ IsStanding l.bench.roots l.bench.ram ∥₁;
  owns : Owns l.bench.pool l.bench.ram (frames_of (pairs_of l.bench.roots) l.bench.ram);
}
