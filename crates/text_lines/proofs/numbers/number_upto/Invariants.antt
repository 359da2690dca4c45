use Rattle.std.proofs.Common.{◌≡◌, ◌≤◌, drop}
use Rattle.text_lines.proofs.Decimals.{number_after}
use Rattle.text_lines.proofs.numbers.number_upto.Given as goal

abbrev pub invariant-loop-b : goal.invariant-loop-b
invariant-loop-b l = record {
  left : number_after l.limit l.value (drop l.b-index l.word) ≡ number_after l.limit 0 l.word;
  low : l.value ≤ l.limit;
}
