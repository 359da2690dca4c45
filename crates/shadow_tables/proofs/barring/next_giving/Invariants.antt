use Rattle.std.proofs.Common.{◌-◌, ◌≤◌}
use Rattle.shadow_tables.proofs.Bars.{AreStill}
use Rattle.shadow_tables.proofs.barring.next_giving.Given as goal

abbrev pub invariant-loop-i : goal.invariant-loop-i
invariant-loop-i l = record {
  behind : l.from ≤ l.i;
  within : l.i ≤ 1024;
  none : AreStill l.ram l.table l.frame l.from l.i;
}

abbrev pub decreases-loop-i : goal.decreases-loop-i
decreases-loop-i l = 1024 - l.i
