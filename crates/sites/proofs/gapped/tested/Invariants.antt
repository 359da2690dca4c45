use Rattle.std.proofs.Common.{◌≡◌, drop}
use Rattle.sites.specs.Gapped as spec
use Rattle.sites.proofs.gapped.tested.Given as goal

abbrev pub invariant-loop-s : goal.invariant-loop-s
invariant-loop-s l = spec.are_gapped l.from (drop l.s-index l.sites) ≡ spec.are_gapped 0 l.sites
