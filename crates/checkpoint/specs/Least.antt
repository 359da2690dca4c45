-- The first bad field as the least of all that are bad.
use Rattle.std.specs.Prelude.{◌≡◌, ℕ, ◌≤◌, List, [], Option, Some, None}
use Rattle.std.specs.List.{All, Contains, filter_map}
use Rattle.checkpoint.specs.declared.demand.Demand.{Demand}
use Rattle.checkpoint.specs.Demands.{bad_in, first_bad}

-- the places of the fields that are tested and bad
abbrev pub bad_places : ℕ → List Demand → List ℕ
bad_places there demands = filter_map (bad_in there) demands

-- the least number of a list, if it has any
abbrev pub IsLeast : List ℕ → Option ℕ → Type 0
IsLeast numbers None = numbers ≡ []
IsLeast numbers (Some n) = Contains numbers n × All (λ (x : ℕ). n ≤ x) numbers

abbrev pub FirstBadIsLeast : Type 0
FirstBadIsLeast = (there : ℕ) (demands : List Demand) → IsLeast (bad_places there demands) (first_bad there demands)
