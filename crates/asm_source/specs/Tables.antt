-- Tables of names.
use Rattle.std.specs.Prelude.{ℕ, List, [], ◌∷◌, Option, Some, None, if◌then◌else◌}
use Rattle.std.specs.Str.{bytes_eq}

abbrev pub Table : Type 0 → Type 0
Table A = List (List ℕ × A)

-- what the table has for the name
abbrev pub found : {A : Type 0} → Table A → List ℕ → Option A
found [] name = None
found (entry ∷ table) name = if bytes_eq name entry.0 then Some entry.1 else found table name
