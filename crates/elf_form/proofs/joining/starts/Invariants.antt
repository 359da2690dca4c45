use Rattle.std.proofs.Common.{◌≡◌, ◌++◌, ◌+◌, ◌*◌, ◌-◌, ◌≤◌, ◌^◌}
use Rattle.elf_form.specs.Tables.{entries}
use Rattle.elf_form.specs.Roles.{starts, joined_end}
use Rattle.elf_form.proofs.joining.starts.Given as goal

abbrev pub invariant-loop-i : goal.invariant-loop-i
invariant-loop-i l = record {
  starts : l.list.items ++ starts l.role l.names l.bytes l.end (entries (l.table + 40 * l.i) 40 (l.count - l.i)) ≡ starts l.role l.names
      l.bytes 0 (entries l.table 40 l.count);
  end : joined_end l.role l.names l.bytes l.end (entries (l.table + 40 * l.i) 40 (l.count - l.i)) ≡ joined_end l.role l.names l.bytes 0
      (entries l.table 40 l.count);
  small : l.end ≤ 2 ^ 33 * l.i;
}
