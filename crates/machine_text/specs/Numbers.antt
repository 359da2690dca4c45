-- Numbers and flags with their names.
use Rattle.std.specs.Prelude.{ℕ, Bool, true, false, List, [], ◌++◌, codes, if◌then◌else◌}
use Rattle.std.specs.List.{flat_map}
use Rattle.run_trace.specs.Text.{hex2, hex4, hex8}

-- a line of a name and a number of 32 bits
abbrev pub long_line : List ℕ → ℕ → List ℕ
long_line name n = name ++ hex8 n ++ codes "\n"

-- a byte after its name
abbrev pub field : List ℕ → ℕ → List ℕ
field name n = name ++ hex2 n

-- a name where something is so
abbrev pub where_so : Bool → List ℕ → List ℕ
where_so so name = if so then name else []

abbrev pub yes_or_no : Bool → List ℕ
yes_or_no so = if so then codes "yes\n" else codes "no\n"

-- each byte after a blank
unfoldable pub bytes_text : List ℕ → List ℕ
bytes_text bytes = flat_map (λ b. codes " " ++ hex2 b) bytes
