use Rattle.std.proofs.Common.{◌≡◌, ◌≤◌, ◌^◌}
use Rattle.trace_check.proofs.LastLine.{left_of}
use Rattle.trace_check.proofs.told.number_told.Given as goal

abbrev pub invariant-loop-b : goal.invariant-loop-b
invariant-loop-b l = record {
  so_far : left_of l.number l.b-index l.text ≡ left_of 0 0 l.text;
  small : l.number ≤ 2 ^ 40;
}
