-- Stores into memory, where `at` gives the place of each address.
use Rattle.std.specs.Prelude.{ℕ, List, [], ◌∷◌}
use Rattle.ia32_exec.specs.declared.outcome.Store.{Store}
use Rattle.paging.specs.Numbers.{number_stored}

-- in their order
abbrev pub all_stored : (ℕ → ℕ) → List ℕ → List Store → List ℕ
all_stored at m [] = m
all_stored at m (w ∷ ws) = all_stored at (number_stored at m w.at w.size w.value) ws
