-- Pieces of text in the order of their numbers.
use Rattle.std.specs.Prelude.{ℕ, zero, suc, List, [], ◌++◌}

-- the pieces of the numbers below n
unfoldable pub below : (ℕ → List ℕ) → ℕ → List ℕ
below piece zero = []
below piece (suc n) = below piece n ++ piece n
