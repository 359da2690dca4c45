-- What a guest leaves of the pool whose frames it holds.
use Rattle.std.specs.Prelude.{◌≡◌, ℕ, ◌+◌, ◌≤◌, List, length}
use Rattle.guest_ram.specs.Bytes.{frame}
use Rattle.frame_pool.specs.Pool.{base_of, free_list, IsOut, SameFrames}
use Rattle.frame_pool.specs.declared.Pool.{Pool}
use Rattle.frame_pool.specs.Held.{times}

-- The frames that are held were fs and are now fs'. With those that are free they are the same frames as before, and as
-- many. Each other frame of the pool that was out still is, and is as it was.
pub record Keeps (p p' : Pool) (m m' fs fs' : List ℕ) : Type 0 where
  pub same : SameFrames p p'
  pub size : length m' ≡ length m
  pub together : (f : ℕ) → times f (free_list p' m') + times f fs' ≡ times f (free_list p m) + times f fs
  pub lengths : length (free_list p' m') + length fs' ≡ length (free_list p m) + length fs
  pub others : (g : ℕ) → base_of p ≤ g → times g (free_list p m) ≡ 0 → times g fs ≡ 0 → frame m' g ≡ frame m g
  pub out : (g : ℕ) → IsOut p m g → times g fs ≡ 0 → IsOut p' m' g
