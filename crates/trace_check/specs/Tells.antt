-- What is read of the last line of a text.
use Rattle.std.specs.Prelude.{◌≡◌, ℕ, ◌≤◌, ◌<◌, ◌^◌, List, length, take, drop, Option, Some, None}
use Rattle.trace_check.specs.declared.told.Told.{Told}
use Rattle.trace_check.specs.Lines.{lines, last_of, before_last, steps_told, stop_told}
use Rattle.trace_check.specs.Matches.{line_behind}

-- the last line of a text that isn't empty begins there, and this is how many lines there are
pub record IsLastLine (text : List ℕ) (at : ℕ) : Type 0 where
  pub within : at ≤ length text
  pub last : drop at text ≡ last_of (lines text)
  pub front : lines (take at text) ≡ before_last (lines text)
  pub count : length (lines text) ≡ line_behind (take at text)

-- the number, where it is no larger than 2^40
abbrev pub IsNumber : ℕ → Option ℕ → Type 0
IsNumber value None = 2 ^ 40 < value
IsNumber value (Some n) = n ≡ value

-- the last line reports this stop, or none
abbrev pub TellsAs : List ℕ → ℕ → Option Told → Type 0
TellsAs text n None = stop_told n (last_of (lines text)) ≡ None
TellsAs text n (Some told) =
    (stop_told n (last_of (lines text)) ≡ Some told.stop) × (told.steps ≡ steps_told (last_of (lines text))) × (told.steps ≤ n)
    × IsLastLine text told.at
