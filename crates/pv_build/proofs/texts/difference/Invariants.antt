use Rattle.std.proofs.Common.{◌≡◌, ◌+◌, ◌≤◌, drop, length}
use Rattle.pv_build.proofs.LineTexts.{difference_from}
use Rattle.pv_build.proofs.texts.difference.Given as goal

abbrev pub invariant-loop-i : goal.invariant-loop-i
invariant-loop-i l = record {
  read : difference_from l.line (drop l.i l.first) (drop l.i l.second) ≡ difference_from 1 l.first l.second;
  small : l.line ≤ l.i + 1;
  within : l.i ≤ length l.second;
}
