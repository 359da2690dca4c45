use Rattle.std.proofs.Common.{◌≡◌, ◌++◌, ◌∷◌, length, take}
use Rattle.std.specs.Int.{w32, to_le_bytes}
use Rattle.std.specs.List.{flat_map}
use Rattle.sites.specs.Spelling.{site}
use Rattle.sites.proofs.writing.write_placed.Given as goal

abbrev pub invariant-loop-s : goal.invariant-loop-s
invariant-loop-s l = l.out.items ≡ (80 ∷ 86 ∷ 83 ∷ 49 ∷ to_le_bytes w32 (length l.sites)) ++ flat_map site (take l.s-index l.sites)
