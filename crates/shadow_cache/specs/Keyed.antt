-- Pairs in a slab, in the order of a list of their keys.
use Rattle.std.specs.Prelude.{◌≡◌, ℕ, ◌≤◌, List, [], ◌∷◌, length, Option, Some, None, IsSome}
use Rattle.slab.specs.Slab.{Slab, get, slab_len}
use Rattle.frame_pool.specs.Frames.{AreDistinct}
use Rattle.shadow_cache.specs.declared.pair.Pair.{Pair}

abbrev pub with_some : Option Pair → List Pair → List Pair
with_some None ps = ps
with_some (Some p) ps = p ∷ ps

abbrev pub listed : Slab Pair → List ℕ → List Pair
listed slab [] = []
listed slab (k ∷ ks) = with_some (get slab k) (listed slab ks)

abbrev pub AreThere : Slab Pair → List ℕ → Type 0
AreThere slab [] = Unit {0}
AreThere slab (k ∷ ks) = IsSome (get slab k) × AreThere slab ks

-- each key has a pair and is there once, no other pair is in the slab, and 8 fit
pub record IsKeyed (slab : Slab Pair) (keys : List ℕ) : Type 0 where
  pub there : AreThere slab keys
  pub distinct : AreDistinct keys
  pub count : slab_len slab ≡ length keys
  pub room : 8 ≤ slab.capacity
