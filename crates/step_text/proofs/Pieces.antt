-- The digits of bytes, one byte after the other.
use Rattle.std.proofs.Common.{◌≡◌, ℕ, ◌+◌, ◌<◌, List, [], ◌++◌, length, take, get_or}
use Rattle.run_trace.specs.Text.{hex2}
use Rattle.ia32_text.proofs.LinePieces.{none_mapped, next_mapped}
use Rattle.step_text.specs.Stored.{digits_of}

pub no_bytes : (line : List ℕ) → line ≡ line ++ digits_of []
unfolding digits_of
no_bytes line = none_mapped hex2 line

pub more_bytes : (xs : List ℕ) (i : ℕ) → i < length xs → digits_of (take (i + 1) xs) ≡ digits_of (take i xs) ++ hex2 (get_or xs i 0)
unfolding digits_of
more_bytes xs i inside = next_mapped hex2 xs i inside
