use Rattle.std.proofs.Common.{◌≡◌, ◌≤◌, ◌+◌, ◌*◌, ◌-◌, ◌++◌}
use Rattle.elf_form.specs.Tables.{entries}
use Rattle.elf_form.specs.Symbols.{numbers}
use Rattle.elf_form.proofs.records.numbers.Given as goal

abbrev pub invariant-loop-i : goal.invariant-loop-i
invariant-loop-i l = record {
  items : l.out.items ++ numbers l.names l.bytes l.number (entries (l.first + 16 * l.i) 16 (l.count - l.i)) ≡ numbers l.names l.bytes 0
      (entries l.first 16 l.count);
  small : l.number ≤ l.i;
}
