use Rattle.std.proofs.Common.{◌≡◌, ◌++◌, ◌∷◌, length, drop}
use Rattle.std.specs.Int.{w32, to_le_bytes}
use Rattle.sites.specs.Spelling.{gaps}
use Rattle.sites.specs.Form.{AreGapped}
use Rattle.sites.proofs.gapped.write_gapped.Given as goal

abbrev pub invariant-loop-s : goal.invariant-loop-s
invariant-loop-s l = record {
  so_far : l.out.items ++ gaps l.from (drop l.s-index l.sites) ≡ (80 ∷ 86 ∷ 83 ∷ 50 ∷ to_le_bytes w32 (length l.sites)) ++ gaps 0 l.sites;
  are : AreGapped l.from (drop l.s-index l.sites);
}
