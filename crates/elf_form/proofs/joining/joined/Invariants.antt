use Rattle.std.proofs.Common.{◌≡◌, ◌+◌, ◌*◌, ◌-◌, []}
use Rattle.elf_form.specs.Tables.{entries}
use Rattle.elf_form.specs.Roles.{joined}
use Rattle.elf_form.proofs.joining.joined.Given as goal

abbrev pub invariant-loop-i : goal.invariant-loop-i
invariant-loop-i l = joined l.names l.bytes l.out.items (entries (l.table + 40 * l.i) 40 (l.count - l.i)) ≡ joined l.names l.bytes []
    (entries l.table 40 l.count)
