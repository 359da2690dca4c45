-- Sets of frames as bits of words.
use Rattle.std.specs.Prelude.{ℕ, zero, suc, ◌/◌, ◌%◌, ◌==◌, List, [], ◌∷◌, replicate, Bool, true, false}

-- no frame is in
unfoldable pub no_frames : List Bool
no_frames = replicate 16384 false

-- all are
unfoldable pub all_frames : List Bool
all_frames = replicate 16384 true

-- the low n bits of a word, the lowest first, and then others
unfoldable pub bits_before : ℕ → ℕ → List Bool → List Bool
bits_before zero word rest = rest
bits_before (suc n) word rest = (word % 2 == 1) ∷ bits_before n (word / 2) rest

-- the 64 bits of each word, the lowest first
unfoldable pub spread : List ℕ → List Bool
spread [] = []
spread (w ∷ ws) = bits_before 64 w (spread ws)
