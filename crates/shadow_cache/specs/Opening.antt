-- For which directory indices pairs have tables.
use Rattle.std.specs.Prelude.{ℕ, Bool, List, [], ◌∷◌}
use Rattle.shadow_tables.specs.Opened.{HasOpenedOnly}
use Rattle.shadow_cache.specs.declared.pair.Pair.{Pair}

-- the views of each have tables only for directory indices of which the test is true
abbrev pub AllOpenedOnly : (ℕ → Bool) → List Pair → List ℕ → Type 0
AllOpenedOnly indices [] m = Unit {0}
AllOpenedOnly indices (p ∷ ps) m = HasOpenedOnly indices p.shadow m × AllOpenedOnly indices ps m
