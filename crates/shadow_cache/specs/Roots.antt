-- The pairs of `Roots`, the present one first.
use Rattle.std.specs.Prelude.{ℕ, List, ◌∷◌, Bool, false, slice_index_or}
use Rattle.shadow_cache.specs.Pairs.{AllBarWrites, IsRoots}
use Rattle.shadow_cache.specs.declared.pair.Pair.{Pair}
use Rattle.shadow_cache.specs.declared.roots.Roots.{Roots}

abbrev pub pairs_of : Roots → List Pair
pairs_of r = r.present ∷ r.others

-- the frame is listed as one to which no pair gives the right to write
abbrev pub is_barred : Roots → ℕ → Bool
is_barred r frame = slice_index_or r.barred frame false

-- the memory is as the pairs left it, and the frames are listed rightly
pub record IsStanding (r : Roots) (m : List ℕ) : Type 0 where
  pub roots : IsRoots (pairs_of r) m
  pub barred : AllBarWrites (is_barred r) (pairs_of r) m
