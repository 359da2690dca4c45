-- Frames that are held, beside those that a pool has free, by how often each is in a list.
use Rattle.std.specs.Prelude.{◌≡◌, ℕ, ◌+◌, ◌*◌, ◌≤◌, List, [], ◌∷◌, length, ◌==◌, if◌then◌else◌}
use Rattle.guest_ram.specs.Bytes.{frame}
use Rattle.frame_pool.specs.Pool.{free_list, Stands, IsOut, SameFrames}
use Rattle.frame_pool.specs.declared.Pool.{Pool}

-- 1 where f is g, and else 0
unfoldable pub hit : ℕ → ℕ → ℕ
hit f g = if f == g then 1 else 0

-- how often f is in a list
unfoldable pub times : ℕ → List ℕ → ℕ
times f [] = 0
times f (g ∷ gs) = hit f g + times f gs

-- the frames fs lie in the memory, each once
pub record Holds (m fs : List ℕ) : Type 0 where
  pub room : (f : ℕ) → 1 ≤ times f fs → 4096 * f + 4096 ≤ length m
  pub once : (f : ℕ) → times f fs ≤ 1

-- the frames fs are the pool's, each once, and all out
pub record Owns (p : Pool) (m fs : List ℕ) : Type 0 where
  pub stands : Stands p m
  pub out : (f : ℕ) → 1 ≤ times f fs → IsOut p m f
  pub once : (f : ℕ) → times f fs ≤ 1

-- no other frame than those of fs was written
pub record Writes (fs m m' : List ℕ) : Type 0 where
  pub size : length m' ≡ length m
  pub others : (g : ℕ) → times g fs ≡ 0 → frame m' g ≡ frame m g

-- The frames that are held were fs and are now fs'. With those that are free they are the same frames as before, and
-- as many. No other frame was written, and each other one that was out still is.
pub record Moves (p p' : Pool) (m m' fs fs' : List ℕ) : Type 0 where
  pub size : length m' ≡ length m
  pub same : SameFrames p p'
  pub stands : Stands p' m'
  pub together : (f : ℕ) → times f (free_list p' m') + times f fs' ≡ times f (free_list p m) + times f fs
  pub lengths : length (free_list p' m') + length fs' ≡ length (free_list p m) + length fs
  pub others : (g : ℕ) → times g (free_list p m) ≡ 0 → times g fs ≡ 0 → frame m' g ≡ frame m g
  pub out : (g : ℕ) → IsOut p m g → times g fs ≡ 0 → IsOut p' m' g

-- the frames of fs are as they were
pub record SameIn (fs m m' : List ℕ) : Type 0 where
  pub size : length m' ≡ length m
  pub frames : (f : ℕ) → 1 ≤ times f fs → frame m' f ≡ frame m f

-- what is written in other frames than the free ones changes nothing of the pool
abbrev pub WritesElsewhereKeep : Type 0
WritesElsewhereKeep =
    (p : Pool) (m m' : List ℕ) → Stands p m → SameIn (free_list p m) m m' → Stands p m' × (free_list p m' ≡ free_list p m)
