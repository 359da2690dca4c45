use Rattle.frame_pool.specs.Held.{Owns}
use Rattle.shadow_tables.specs.Slots.{held, IsShadow}
use Rattle.part_vectors.proofs.shadows.do_all.Given as goal

abbrev pub invariant-loop-row : goal.invariant-loop-row
invariant-loop-row g l = record {
  shadow : IsShadow l.bench.shadow l.bench.ram;
  owns : Owns l.bench.pool l.bench.ram (held l.bench.shadow l.bench.ram);
}
