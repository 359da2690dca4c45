use Rattle.std.proofs.Common.{◌≡◌, ◌+◌, ◌*◌, ◌-◌}
use Rattle.std.specs.List.{find}
use Rattle.elf_form.specs.Tables.{entries}
use Rattle.elf_form.specs.Roles.{is_misaligned}
use Rattle.elf_form.proofs.joining.misaligned.Given as goal

abbrev pub invariant-loop-i : goal.invariant-loop-i
invariant-loop-i l = find (is_misaligned l.names l.bytes) (entries (l.table + 40 * l.i) 40 (l.count - l.i)) ≡ find
    (is_misaligned l.names l.bytes) (entries l.table 40 l.count)
