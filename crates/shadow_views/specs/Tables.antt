-- Views over a memory: each has a directory, its root, whose words name tables, whose words are of pages. Intel SDM
-- volume 3, 32-bit paging: a frame has 1,024 words, and a word has the number of a frame in bits 12 to 31. The flags of a
-- word of a page are bits 0 to 8: P, R/W, U/S, PWT, PCD, A, D, PAT and G. Bits 9 to 11 are ignored. `open` sets P, R/W and
-- U/S in the word that names a table, and nothing else.
use Rattle.std.specs.Prelude.{◌≡◌, ◌≢◌, ℕ, zero, suc, ◌+◌, ◌*◌, ◌/◌, ◌%◌, ◌^◌, ◌<◌, ◌≤◌, ◌⊎◌, List, [], ◌∷◌, ◌++◌, length}
use Rattle.guest_ram.specs.Bytes.{word32, with_word32}
use Rattle.frame_pool.specs.Pool.{free_list, Takes, SameFrames, SameBut}
use Rattle.frame_pool.specs.declared.Pool.{Pool}
use Rattle.frame_pool.specs.Held.{Owns, Writes, Moves}

-- the PDE d of the view with the root r
unfoldable pub dir : List ℕ → ℕ → ℕ → ℕ
dir m r d = word32 m (4096 * r + 4 * d)

-- the word i of the table that a PDE names, or 0 where it names none
abbrev pub by_dir : List ℕ → ℕ → ℕ → ℕ
by_dir m zero i = 0
by_dir m (suc w) i = word32 m (4096 * (suc w / 4096) + 4 * i)

-- the word of a page
unfoldable pub at : List ℕ → ℕ → ℕ → ℕ
at m r page = by_dir m (dir m r (page / 1024)) (page % 1024)

-- and of the table that a PDE names
abbrev pub with_table : ℕ → List ℕ → List ℕ
with_table zero fs = fs
with_table (suc w) fs = (suc w / 4096) ∷ fs

-- the tables of the first n PDEs
unfoldable pub tables : List ℕ → ℕ → ℕ → List ℕ
tables m r zero = []
tables m r (suc n) = with_table (dir m r n) (tables m r n)

-- the frames of the views with the roots rs
unfoldable pub owned : List ℕ → List ℕ → List ℕ
owned m [] = []
owned m (r ∷ rs) = r ∷ (tables m r 1024 ++ owned m rs)

abbrev pub IsIn : ℕ → List ℕ → Type 0
IsIn r [] = ⊥
IsIn r (s ∷ rs) = (r ≡ s) ⊎ IsIn r rs

-- a view whose frames lie in the memory
pub record IsView (m : List ℕ) (r : ℕ) : Type 0 where
  pub root : 4096 * r + 4096 ≤ length m
  pub table : (d : ℕ) → d < 1024 → dir m r d ≢ 0 → 4096 * (dir m r d / 4096) + 4096 ≤ length m

-- the memory with the word of a page, whose table is there, changed to v
unfoldable pub with_at : List ℕ → ℕ → ℕ → ℕ → List ℕ
with_at m r page v = with_word32 m (4096 * (dir m r (page / 1024) / 4096) + 4 * (page % 1024)) v

-- of the words of all pages only that of this page in the view r changed, to v
pub record Puts (m m' rs : List ℕ) (r page v : ℕ) : Type 0 where
  pub writes : Writes (owned m rs) m m'
  pub frames : owned m' rs ≡ owned m rs
  pub dirs : (s d : ℕ) → IsIn s rs → d < 1024 → dir m' s d ≡ dir m s d
  pub there : at m' r page ≡ v
  pub others : (s q : ℕ) → IsIn s rs → q < 2 ^ 20 → (s ≡ r → q ≡ page → ⊥) → at m' s q ≡ at m s q

-- no word of a page changed, and the table of PDE d in the view r is there
pub record Opens (p p' : Pool) (m m' rs : List ℕ) (r d : ℕ) : Type 0 where
  pub moves : Moves p p' m m' (owned m rs) (owned m' rs)
  pub some : dir m' r d ≢ 0
  pub one : length (free_list p m) ≤ length (free_list p' m') + 1
  pub dirs : (s e : ℕ) → IsIn s rs → e < 1024 → (dir m' s e ≡ dir m s e) ⊎ (dir m' s e % 4096 ≡ 7)
  pub words : (s q : ℕ) → IsIn s rs → q < 2 ^ 20 → at m' s q ≡ at m s q

-- a free frame became the table of PDE d
pub record Grows (p p' : Pool) (m m' : List ℕ) (r d : ℕ) : Type 0 where
  pub frame : ℕ
  pub zeroed : List ℕ
  pub takes : Takes p p' m zeroed frame
  pub memory : m' ≡ with_word32 zeroed (4096 * r + 4 * d) (4096 * frame + 7)

-- PDE d names no table, and the frame of its table became the first free one; no other frame changed
pub record Shrinks (p p' : Pool) (m m' : List ℕ) (r d : ℕ) : Type 0 where
  pub cleared : List ℕ
  pub memory : cleared ≡ with_word32 m (4096 * r + 4 * d) 0
  pub list : free_list p' m' ≡ (dir m r d / 4096) ∷ free_list p cleared
  pub but : SameBut (dir m r d / 4096) cleared m'
  pub same : SameFrames p p'

-- a root of some views whose frames are the pool's and out
pub record IsOwned (p : Pool) (m : List ℕ) (r : ℕ) : Type 0 where
  pub all : List ℕ
  pub owns : Owns p m (owned m all)
  pub root : IsIn r all

-- the PDE d of the view r names no table, and no other PDE changed
pub record Closes (p p' : Pool) (m m' rs : List ℕ) (r d : ℕ) : Type 0 where
  pub moves : Moves p p' m m' (owned m rs) (owned m' rs)
  pub gone : dir m' r d ≡ 0
  pub dirs : (s e : ℕ) → IsIn s rs → e < 1024 → (s ≡ r → e ≡ d → ⊥) → dir m' s e ≡ dir m s e

-- the first n PDEs of the view r name no table, and none of another view changed
pub record Empties (p p' : Pool) (m m' rs : List ℕ) (r n : ℕ) : Type 0 where
  pub moves : Moves p p' m m' (owned m rs) (owned m' rs)
  pub gone : (e : ℕ) → e < n → dir m' r e ≡ 0
  pub dirs : (s e : ℕ) → IsIn s rs → e < 1024 → (s ≡ r → ⊥) → dir m' s e ≡ dir m s e
