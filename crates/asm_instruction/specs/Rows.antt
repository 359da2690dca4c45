-- Tables of names as the program has them.
use Rattle.std.specs.Prelude.{ℕ, List, [], ◌∷◌, Option, Some, None, if◌then◌else◌}
use Rattle.std.specs.Str.{bytes_eq}
use denote.Ref.{Bor}

-- what the table has for the name
abbrev pub found_row : {A : Type 0} → List (Bor (List ℕ) × A) → List ℕ → Option A
found_row [] name = None
found_row (row ∷ table) name = if bytes_eq name row.0.now then Some row.1 else found_row table name
