-- For callers: what stays as it was over a write, a `take` and a `give`.
use Rattle.std.proofs.Common.{◌≡◌, ◌≢◌, ℕ, ◌+◌, ◌*◌, ◌<◌, ◌≤◌, ◌⊎◌, List, [], ◌∷◌, length, refl, sym, ◌∙◌, subst, inl, inr, arith}
use Rattle.guest_ram.specs.Bytes.{with_word32, with_part}
use Rattle.guest_ram.proofs.Bytes.{length-with_word32, length-with_part, frame-with_part, frame-with_word32}
use Rattle.frame_pool.specs.Frames.{IsNotIn, AreWithin}
use Rattle.frame_pool.specs.Pool.{free_list, Stands, IsOut, SameBut, Takes}
use Rattle.frame_pool.specs.declared.Pool.{Pool}
use Rattle.frame_pool.proofs.Chains.{AreSame-from_but, free_list-same, Stands-same}

-- ---- writes of the caller

pub SameBut-with_word32 : (m : List ℕ) (f o v : ℕ) → 4096 * f + o + 4 ≤ length m → o + 4 ≤ 4096
    → SameBut f m (with_word32 m (4096 * f + o) v)
SameBut-with_word32 m f o v h l =
    record { size = length-with_word32 m (4096 * f + o) v h; others = λ g ne. frame-with_word32 m f o v g h l ne }

-- a frame that is out stays out where the free list is the same
pub IsOut-same : (p : Pool) (m m' : List ℕ) (f : ℕ) → free_list p m' ≡ free_list p m → IsOut p m f → IsOut p m' f
IsOut-same p m m' f e o = record { low = o.low; high = o.high; out = subst (IsNotIn f) (sym e) o.out }

-- ---- `take`

-- what was out still is, and is another frame
pub Takes-others : (p p' : Pool) (m m' : List ℕ) (f g : ℕ) → Takes p p' m m' f → IsOut p m g → IsOut p' m' g × (g ≢ f)
Takes-others p p' m m' f g t o =
    let n = subst (IsNotIn g) t.list o.out in
    (record { low = rw t.same.0 o.low; high = rw (t.same.0, t.same.1) o.high; out = n.1 }, n.0)

-- a frame that was taken comes back
pub Takes-gives : (p p' q : Pool) (m m' n : List ℕ) (f : ℕ) → Takes p p' m m' f → free_list q n ≡ f ∷ free_list p' m'
    → free_list q n ≡ free_list p m
Takes-gives p p' q m m' n f t e = e ∙ sym t.list
