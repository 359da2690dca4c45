-- The earlier of two places.
use Rattle.std.specs.Prelude.{ℕ, Option, Some, None, min}

-- the earlier of two numbers, where there is one
abbrev pub earlier : Option ℕ → Option ℕ → Option ℕ
earlier None b = b
earlier (Some a) None = Some a
earlier (Some a) (Some b) = Some (min a b)
