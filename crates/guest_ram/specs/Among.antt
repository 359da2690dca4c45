-- A number in a list.
use Rattle.std.specs.Prelude.{ℕ, Bool, ◌==◌, List}
use Rattle.std.specs.List.{list_any}

-- the number is one of these
abbrev pub is_among : ℕ → List ℕ → Bool
is_among x xs = list_any (λ t. x == t) xs
