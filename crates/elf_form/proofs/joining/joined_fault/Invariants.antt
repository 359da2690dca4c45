use Rattle.std.proofs.Common.{◌≡◌, ◌+◌, ◌*◌, ◌-◌, ◌<◌, ◌^◌}
use Rattle.elf_form.specs.Tables.{entries}
use Rattle.elf_form.specs.Roles.{joined_fault}
use Rattle.elf_form.proofs.joining.joined_fault.Given as goal

abbrev pub invariant-loop-i : goal.invariant-loop-i
invariant-loop-i l = record {
  so_far : joined_fault l.role l.names l.bytes l.total (entries (l.table + 40 * l.i) 40 (l.count - l.i)) ≡ joined_fault l.role l.names
      l.bytes 0 (entries l.table 40 l.count);
  small : l.total < 2 ^ 32;
}
