-- Lists of names as the program has them.
use Rattle.std.specs.Prelude.{ℕ, Bool, false, ◌||◌, List, [], ◌∷◌}
use Rattle.std.specs.Str.{bytes_eq}
use denote.Ref.{Bor}

-- whether the name is one of them
abbrev pub among : List (Bor (List ℕ)) → List ℕ → Bool
among [] name = false
among (text ∷ texts) name = bytes_eq name text.now || among texts name
