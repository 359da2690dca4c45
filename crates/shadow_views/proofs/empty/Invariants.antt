use Rattle.std.proofs.Common.{ℕ, ◌-◌, ◌≤◌, List}
use Rattle.frame_pool.specs.Held.{Owns}
use Rattle.shadow_views.specs.Tables.{owned, IsIn, Empties}
use Rattle.shadow_views.proofs.empty.Given as goal

abbrev pub invariant-loop-d : goal.invariant-loop-d
invariant-loop-d l = record {
  within : l.d ≤ 1024;
  empties : (rs : List ℕ) → Owns l.fn.pool l.fn.ram (owned l.fn.ram rs) → IsIn l.fn.root rs
      → Empties l.fn.pool l.pool l.fn.ram l.ram rs l.fn.root l.d;
}

abbrev pub decreases-loop-d : goal.decreases-loop-d
decreases-loop-d l = 1024 - l.d
