use Rattle.frame_pool.specs.Held.{Owns}
use Rattle.shadow_tables.specs.Slots.{held, IsShadow}
use Rattle.part_vectors.proofs.shadows.are_kept.Given as goal

abbrev pub invariant-loop-step : goal.invariant-loop-step
invariant-loop-step g l = record {
  shadow : IsShadow l.shadow l.ram;
  owns : Owns l.pool l.ram (held l.shadow l.ram);
}
