use Rattle.std.proofs.Common.{◌≡◌, ◌≤◌, ◌-◌, ℕ, Bool}
use Rattle.frame_pool.specs.declared.Pool.{Pool}
use Rattle.frame_pool.specs.Held.{Owns, Moves}
use Rattle.shadow_tables.specs.OtherRoot.{AreSame}
use Rattle.wedge_core.proofs.Sweeping.{GoneBelow}
use Rattle.wedge_core.proofs.native.drop_dirs.Given as goal

abbrev pub invariant-loop-index : goal.invariant-loop-index
invariant-loop-index g l = record {
  stands : ∥ g.S.Shadows.stands l.shadows l.ram ∥₁;
  within : l.index ≤ 1024;
  gone : GoneBelow l.index (g.S.Shadows.slots l.shadows l.ram);
  read_from : (f : ℕ) → g.S.Shadows.read_from l.shadows f ≡ g.S.Shadows.read_from l.fn.shadows f;
  stale : g.S.Shadows.stale l.shadows ≡ g.S.Shadows.stale l.fn.shadows;
  cr3 : g.S.Shadows.cr3 l.shadows ≡ g.S.Shadows.cr3 l.fn.shadows;
  other_roots : AreSame (g.S.Shadows.other_roots l.fn.shadows l.fn.ram) (g.S.Shadows.other_roots l.shadows l.ram);
  has_tables_under : (indices : ℕ → Bool) → g.S.Shadows.has_tables_under l.fn.shadows l.fn.ram indices
      → g.S.Shadows.has_tables_under l.shadows l.ram indices;
  frames : g.S.Shadows.frames l.shadows l.ram ≡ g.S.Shadows.frames l.fn.shadows l.fn.ram;
  moves : (p : Pool) → Owns p l.fn.ram (g.S.Shadows.frames l.fn.shadows l.fn.ram)
      → Moves p p l.fn.ram l.ram (g.S.Shadows.frames l.fn.shadows l.fn.ram) (g.S.Shadows.frames l.shadows l.ram);
}

abbrev pub decreases-loop-index : goal.decreases-loop-index
decreases-loop-index g l = 1024 - l.index
