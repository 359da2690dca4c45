-- A sink that compares what it is given with a text.
use Rattle.std.specs.Prelude.{◌≡◌, ◌≢◌, ℕ, ◌+◌, ◌<◌, ◌≤◌, List, [], ◌∷◌, ◌++◌, length, take, slice_get, Option, Some, None, IsSome, count_by, ◌==◌}
use Rattle.std.specs.Option.{ForSome}
use Rattle.trace_check.specs.Lines.{lines, differing}

-- the text, how many of its bytes were given, the first other byte that was given after them, and how often a call failed
pub record Matched : Type 0 where
  pub text : List ℕ
  pub at : ℕ
  pub wrong : Option ℕ
  pub faults : ℕ

abbrev pub byte_of : Option ℕ → List ℕ
byte_of None = []
byte_of (Some b) = b ∷ []

-- what was given, up to the first byte that isn't the text's
abbrev pub given_to : Matched → List ℕ
given_to m = take m.at m.text ++ byte_of m.wrong

-- The same after the text and its length. So what the sink has taken shows its text too.
abbrev pub taken_by : Matched → List ℕ
taken_by m = length m.text ∷ (m.text ++ given_to m)

pub record IsMatched (m : Matched) : Type 0 where
  pub within : m.at ≤ length m.text
  pub other : ForSome m.wrong (λ b. slice_get m.text m.at ≢ Some b)
  pub failed : 0 < m.faults → IsSome m.wrong

-- the line, counted from 1, of the place after a text
abbrev pub line_behind : List ℕ → ℕ
line_behind text = count_by (λ b. b == 10) text + 1

-- What was given and isn't the text has its first other line there, whatever is given after it where a byte was wrong.
pub record DiffersAt (m : Matched) (line : ℕ) : Type 0 where
  pub here : differing 1 (lines (given_to m)) (lines m.text) ≡ Some line
  pub behind : IsSome m.wrong → (rest : List ℕ) → differing 1 (lines (given_to m ++ rest)) (lines m.text) ≡ Some line

abbrev pub DiffersAs : Matched → Option ℕ → Type 0
DiffersAs m None = (given_to m ≡ m.text) × (m.wrong ≡ None)
DiffersAs m (Some line) = DiffersAt m line
