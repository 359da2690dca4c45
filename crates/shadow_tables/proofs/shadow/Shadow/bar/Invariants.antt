use Rattle.std.proofs.Common.{◌-◌, ◌*◌, ◌≤◌}
use Rattle.shadow_tables.specs.Sweeps.{Sweeps}
use Rattle.shadow_tables.proofs.Bars.{without}
use Rattle.shadow_tables.proofs.shadow.Shadow.bar.Given as goal

abbrev pub invariant-loop-index : goal.invariant-loop-index
invariant-loop-index l = record {
  swept : Sweeps l.self l.fn.ram l.ram 0 (1024 * l.index) (without l.self l.fn.ram l.frame);
  within : l.index ≤ 1024;
}

abbrev pub decreases-loop-index : goal.decreases-loop-index
decreases-loop-index l = 1024 - l.index
