use Rattle.std.proofs.Common.{◌≡◌, ℕ, take, Bool}
use Rattle.frame_pool.specs.declared.Pool.{Pool}
use Rattle.frame_pool.specs.Held.{Owns, Moves}
use Rattle.wedge_step.specs.Sight.{pages_dropped}
use Rattle.wedge_step.proofs.close.drop_pages.Given as goal

abbrev pub invariant-loop-page : goal.invariant-loop-page
invariant-loop-page g l = record {
  stands : ∥ g.S.Shadows.stands l.shadows l.ram ∥₁;
  sight : g.S.Shadows.sight l.shadows l.ram ≡ pages_dropped (take l.page-index l.pages) (g.S.Shadows.sight l.fn.shadows l.fn.ram);
  has_tables_under : (indices : ℕ → Bool) → g.S.Shadows.has_tables_under l.fn.shadows l.fn.ram indices
      → g.S.Shadows.has_tables_under l.shadows l.ram indices;
  moves : (p : Pool) → Owns p l.fn.ram (g.S.Shadows.frames l.fn.shadows l.fn.ram)
      → Moves p p l.fn.ram l.ram (g.S.Shadows.frames l.fn.shadows l.fn.ram) (g.S.Shadows.frames l.shadows l.ram);
}
