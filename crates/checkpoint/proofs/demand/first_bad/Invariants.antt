use Rattle.std.proofs.Common.{◌≡◌, drop}
use Rattle.board.specs.Earlier.{earlier}
use Rattle.checkpoint.specs.Demands.{first_bad}
use Rattle.checkpoint.proofs.demand.first_bad.Given as goal

abbrev pub invariant-loop-demand : goal.invariant-loop-demand
invariant-loop-demand l = earlier l.first (first_bad l.there (drop l.demand-index l.demands)) ≡ first_bad l.there l.demands
