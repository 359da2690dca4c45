-- Texts, line by line, and the stop that a text's last line reports.
use Rattle.std.specs.Prelude.{ℕ, ◌+◌, ◌==◌, nat_le, if◌then◌else◌, List, [], ◌∷◌, drop, Option, Some, None, find}
use Rattle.std.specs.List.{take_while}
use Rattle.std.specs.Str.{bytes_eq}
use Rattle.std.specs.Char.{is_ascii_digit}
use Rattle.ia32_types.specs.declared.stop.Stop.{Stop}
use Rattle.ia32_types.specs.declared.stop.Stop.TheVariants as stops
use Rattle.run_trace.specs.declared.items.End.TheVariants.{Stopped}
use Rattle.run_trace.specs.Text.{end_line}
use Rattle.text_lines.specs.Numbers.{decimal_after}

-- a byte in front of the first line
abbrev pub begun_by : ℕ → List (List ℕ) → List (List ℕ)
begun_by b [] = (b ∷ []) ∷ []
begun_by b (line ∷ later) = (b ∷ line) ∷ later

-- the lines of a text, each with its newline, which the last may lack
unfoldable pub lines : List ℕ → List (List ℕ)
lines [] = []
lines (b ∷ text) = if b == 10 then (b ∷ []) ∷ lines text else begun_by b (lines text)

-- the last line, and the lines before it
abbrev pub last_of : List (List ℕ) → List ℕ
last_of [] = []
last_of (line ∷ []) = line
last_of (line ∷ next ∷ later) = last_of (next ∷ later)

abbrev pub before_last : List (List ℕ) → List (List ℕ)
before_last [] = []
before_last (line ∷ []) = []
before_last (line ∷ next ∷ later) = line ∷ before_last (next ∷ later)

-- the first line that differs, or that one of them lacks; the first has this number
unfoldable pub differing : ℕ → List (List ℕ) → List (List ℕ) → Option ℕ
differing n [] [] = None
differing n [] (b ∷ bs) = Some n
differing n (a ∷ rest) [] = Some n
differing n (a ∷ rest) (b ∷ bs) = if bytes_eq a b then differing (n + 1) rest bs else Some n

-- ---- the last line of a run that ended at a stop of a monitor's own

abbrev pub monitor_stops : List Stop
monitor_stops =
    stops.TextTouched ∷ stops.WedgeTouched ∷ stops.LowTouched ∷ stops.NotAStart ∷ stops.TextMapped ∷ stops.TableInText ∷ stops.UserFlags ∷
    stops.CodeIsTable ∷ []

-- the number that the digits at the front of a text say
abbrev pub number_of : List ℕ → ℕ
number_of text = decimal_after 0 (take_while is_ascii_digit text)

-- the number that stands in the place of the count of steps, after "end steps "
abbrev pub steps_told : List ℕ → ℕ
steps_told line = number_of (drop 10 line)

-- the stop that the line reports, after at most n steps
unfoldable pub stop_told : ℕ → List ℕ → Option Stop
stop_told n line =
    if nat_le (steps_told line) n then find (λ stop. bytes_eq line (end_line (steps_told line) (Stopped stop))) monitor_stops else None
