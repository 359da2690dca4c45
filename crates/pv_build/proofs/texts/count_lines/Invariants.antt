use Rattle.std.proofs.Common.{◌≡◌, ◌+◌, ◌≤◌, drop, length}
use Rattle.trace_check.specs.Lines.{lines}
use Rattle.pv_build.proofs.LineTexts.{begin_in}
use Rattle.pv_build.proofs.texts.count_lines.Given as goal

abbrev pub invariant-loop-b : goal.invariant-loop-b
invariant-loop-b l = record {
  read : l.count + begin_in l.begins (drop l.b-index l.text) ≡ length (lines l.text);
  small : l.count ≤ l.b-index;
}
