-- What the sweep gives at an offset, and from there on.
use Rattle.std.specs.Prelude.{◌≡◌, ℕ, ◌+◌, List, [], ◌∷◌, length, drop, Option, Some, None, Result, Ok, Err}
use Rattle.ia32_decode.specs.Decoding.{decoded}
use Rattle.image_check.specs.declared.piece.Piece.{Piece}
use Rattle.image_check.specs.Sweep.{Swept, swept_at}
use Rattle.image_check.specs.Pieces.{piece_of}

abbrev pub there_as : Result Swept ℕ → Option Piece
there_as (Ok s) = Some (piece_of s)
there_as (Err at) = None

-- the instruction that stands at an offset, if one does
abbrev pub piece_there : List ℕ → ℕ → Option Piece
piece_there text at = there_as (swept_at at (decoded (drop at text)))

-- The instructions of a text from an offset up to another, one directly after the other.
abbrev pub AreBetween : List ℕ → ℕ → List Piece → ℕ → Type 0
AreBetween text from [] to = from ≡ to
AreBetween text from (p ∷ ps) to = (piece_there text from ≡ Some p) × AreBetween text (from + p.len) ps to

-- The instructions of a text from an offset on.
abbrev pub AreLeft : List ℕ → ℕ → List Piece → Type 0
AreLeft text at ps = AreBetween text at ps (length text)
