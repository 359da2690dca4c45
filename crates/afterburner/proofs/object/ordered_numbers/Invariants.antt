use Rattle.std.proofs.Common.{◌≡◌, ◌≤◌, take, length}
use Rattle.std.specs.Prelude.{map, count_by, true, false}
use Rattle.std.specs.List.{range_with_len}
use Rattle.afterburner.specs.Objects.{ordered_number, defines}
use Rattle.afterburner.proofs.object.ordered_numbers.Given as goal

abbrev pub invariant-loop-definition : goal.invariant-loop-definition
invariant-loop-definition l = record {
  numbers : l.numbers.items ≡ map (ordered_number l.definitions) (range_with_len 0 l.definition-index);
  count : length l.numbers.items ≡ l.definition-index;
  locals : l.locals ≡ count_by (defines false) (take l.definition-index l.definitions);
  globals : l.globals ≡ count_by (defines true) (take l.definition-index l.definitions);
  locals_few : l.locals ≤ l.definition-index;
  globals_few : l.globals ≤ l.definition-index;
}
