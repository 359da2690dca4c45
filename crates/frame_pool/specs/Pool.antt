-- What a pool stands for over a memory.
use Rattle.std.specs.Prelude.{◌≡◌, ◌≢◌, ℕ, zero, suc, ◌+◌, ◌*◌, ◌<◌, ◌≤◌, ◌⊎◌, List, [], ◌∷◌, length, replicate}
use Rattle.guest_ram.specs.Bytes.{word32, with_part, frame}
use Rattle.frame_pool.specs.Frames.{IsNotIn, AreDistinct, AreWithin}
use Rattle.frame_pool.specs.declared.Pool.{Pool}

-- n frames, each but the last followed by the one that its first word names
unfoldable pub chain : List ℕ → ℕ → ℕ → List ℕ
chain m zero f = []
chain m (suc n) f = f ∷ chain m n (word32 m (4096 * f))

-- the first frame of a pool, and how many frames it has
abbrev pub base_of : Pool → ℕ
base_of p = p.base

abbrev pub count_of : Pool → ℕ
count_of p = p.count

-- the free frames, last given first
abbrev pub free_list : Pool → List ℕ → List ℕ
free_list p m = chain m p.free p.head

-- the frames of the pool lie in the memory, and the free ones are some of them, each once
pub record Stands (p : Pool) (m : List ℕ) : Type 0 where
  pub room : 4096 * (p.base + p.count) ≤ length m
  pub within : AreWithin p.base p.count (free_list p m)
  pub distinct : AreDistinct (free_list p m)

-- the frame f is one of the pool's, and not free
pub record IsOut (p : Pool) (m : List ℕ) (f : ℕ) : Type 0 where
  pub low : p.base ≤ f
  pub high : f < p.base + p.count
  pub out : IsNotIn f (free_list p m)

-- the same frames
abbrev pub SameFrames : Pool → Pool → Type 0
SameFrames p p' = (p'.base ≡ p.base) × (p'.count ≡ p.count)

-- a memory of the same length, with no other change than in the frame f
pub record SameBut (f : ℕ) (m m' : List ℕ) : Type 0 where
  pub size : length m' ≡ length m
  pub others : (g : ℕ) → g ≢ f → frame m' g ≡ frame m g

-- the same with the n frames from b on
pub record SameOutside (b n : ℕ) (m m' : List ℕ) : Type 0 where
  pub size : length m' ≡ length m
  pub others : (g : ℕ) → (g < b) ⊎ (b + n ≤ g) → frame m' g ≡ frame m g

-- f was the first free frame, and is now out, and zero; no other frame changed
pub record Takes (p p' : Pool) (m m' : List ℕ) (f : ℕ) : Type 0 where
  pub list : free_list p m ≡ f ∷ free_list p' m'
  pub fits : 4096 * f + 4096 ≤ length m
  pub memory : m' ≡ with_part m (4096 * f) (replicate 4096 0)
  pub zeroed : frame m' f ≡ replicate 4096 0
  pub but : SameBut f m m'
  pub stands : Stands p' m'
  pub same : SameFrames p p'
  pub out : IsOut p' m' f

-- no frame is free, and nothing changed
abbrev pub TakesNone : Pool → Pool → List ℕ → List ℕ → Type 0
TakesNone p p' m m' = (free_list p m ≡ []) × (p' ≡ p) × (m' ≡ m)

-- both memories have the same bytes in the frames fs
abbrev pub AreSame : List ℕ → List ℕ → List ℕ → Type 0
AreSame m m' [] = Unit {0}
AreSame m m' (f ∷ fs) = (frame m' f ≡ frame m f) × AreSame m m' fs
