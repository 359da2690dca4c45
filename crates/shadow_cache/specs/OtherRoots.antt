-- Pairs that aren't the present one, as what is kept for values of CR3 that may be loaded again.
use Rattle.std.specs.Prelude.{ℕ, List, [], ◌∷◌}
use Rattle.shadow_tables.specs.OtherRoot.{OtherRoot}
use Rattle.shadow_tables.specs.Slots.{slot_at}
use Rattle.shadow_cache.specs.Pairs.{reads}
use Rattle.shadow_cache.specs.declared.pair.Pair.{Pair}

abbrev pub other_root_of : Pair → List ℕ → OtherRoot
other_root_of p m = record { cr3 = p.cr3; tables = reads p; slots = slot_at p.shadow m }

abbrev pub other_roots_of : List Pair → List ℕ → List OtherRoot
other_roots_of [] m = []
other_roots_of (p ∷ ps) m = other_root_of p m ∷ other_roots_of ps m
