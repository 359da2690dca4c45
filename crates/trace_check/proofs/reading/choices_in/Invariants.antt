use Rattle.std.proofs.Common.{◌≡◌, ◌≤◌, ◌+◌, ◌*◌, ◌-◌, ◌++◌, length}
use Rattle.trace_check.specs.Reading.{choices_fault, choices_at}
use Rattle.trace_check.proofs.reading.choices_in.Given as goal

abbrev pub invariant-loop-i : goal.invariant-loop-i
invariant-loop-i l = record {
  so_far : choices_fault l.bytes l.least (l.count - l.i) (8 + 16 * l.i) ≡ choices_fault l.bytes 0 l.count 8;
  list : l.list.items ++ choices_at l.bytes (l.count - l.i) (8 + 16 * l.i) ≡ choices_at l.bytes l.count 8;
  room : 8 + 16 * l.i ≤ length l.bytes;
}
