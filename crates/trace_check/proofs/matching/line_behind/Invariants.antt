use Rattle.std.proofs.Common.{◌≡◌, ◌+◌, ◌≤◌, take}
use Rattle.std.specs.Prelude.{count_by, ◌==◌}
use Rattle.trace_check.proofs.matching.line_behind.Given as goal

abbrev pub invariant-loop-b : goal.invariant-loop-b
invariant-loop-b l = record {
  count : l.line ≡ count_by (λ b. b == 10) (take l.b-index l.text) + 1;
  small : l.line ≤ l.b-index + 1;
}
