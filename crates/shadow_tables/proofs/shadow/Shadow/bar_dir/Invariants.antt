use Rattle.std.proofs.Common.{◌+◌, ◌-◌, ◌*◌, ◌≤◌}
use Rattle.shadow_tables.specs.Sweeps.{Sweeps}
use Rattle.shadow_tables.proofs.Bars.{without}
use Rattle.shadow_tables.proofs.shadow.Shadow.bar_dir.Given as goal

abbrev pub invariant-loop-word : goal.invariant-loop-word
invariant-loop-word l = record {
  swept : Sweeps l.self l.fn.ram l.ram (1024 * l.index) (1024 * l.index + l.word) (without l.self l.fn.ram l.frame);
  within : l.word ≤ 1024;
}

abbrev pub decreases-loop-word : goal.decreases-loop-word
decreases-loop-word l = 1024 - l.word
