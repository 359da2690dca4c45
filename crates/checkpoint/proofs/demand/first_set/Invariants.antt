use Rattle.std.proofs.Common.{◌≡◌, ◌+◌, drop}
use Rattle.checkpoint.specs.Demands.{first_bad, zero_demands}
use Rattle.checkpoint.proofs.demand.first_set.Given as goal

abbrev pub invariant-loop-i : goal.invariant-loop-i
invariant-loop-i l = first_bad l.there (zero_demands (l.at + l.i) (drop l.i l.bytes)) ≡ first_bad l.there (zero_demands l.at l.bytes)
