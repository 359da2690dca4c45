use Rattle.std.proofs.Common.{◌≡◌, ◌≤◌, ◌+◌, ◌++◌, length}
use Rattle.machine_text.specs.Below.{below}
use Rattle.machine_text.specs.Mapped.{byte_now}
use Rattle.machine_text.specs.Dump.{letter, address}
use Rattle.machine_text.specs.Views.{seen}
use Rattle.machine_text.proofs.dump.add_letters.Given as goal

abbrev pub invariant-loop-i : goal.invariant-loop-i
invariant-loop-i g l = record {
  text : l.line.items ≡ l.fn.line.items ++ below (λ i. letter (byte_now (seen g.C.Cache.entries l.memory) (address l.at i))) l.i;
  len : length l.line.items ≤ length l.fn.line.items + l.i;
}
