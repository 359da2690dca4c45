use Rattle.std.proofs.Common.{◌≡◌, ◌+◌, ◌++◌, length, replicate}
use Rattle.pv_look.proofs.statement.pad.Given as goal

abbrev pub invariant-loop : goal.invariant-loop
invariant-loop l = record {
  text : l.line.items ≡ l.fn.line.items ++ replicate l.counter 32;
  len : length l.line.items ≡ length l.fn.line.items + l.counter;
}
