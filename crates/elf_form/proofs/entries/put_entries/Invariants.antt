use Rattle.std.proofs.Common.{◌≡◌, ◌+◌, ◌*◌, ◌-◌, ◌++◌}
use Rattle.std.specs.Prelude.{map, All}
use Rattle.elf_form.specs.Tables.{entries}
use Rattle.elf_form.specs.Symbols.{entry}
use Rattle.elf_form.specs.KeptRelocs.{IsEntry}
use Rattle.elf_form.proofs.entries.put_entries.Given as goal

abbrev pub invariant-loop-i : goal.invariant-loop-i
invariant-loop-i l = record {
  items : l.out.items ++ map (entry l.s) (entries (l.first + 8 * l.i) 8 (l.count - l.i)) ≡ l.fn.out.items
      ++ map (entry l.s) (entries l.first 8 l.count);
  inside : All (IsEntry l.bytes) l.out.items;
}
