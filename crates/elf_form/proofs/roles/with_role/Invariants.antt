use Rattle.std.proofs.Common.{◌≡◌, ◌+◌, ◌*◌, ◌-◌}
use Rattle.std.specs.Prelude.{filter}
use Rattle.elf_form.specs.Tables.{entries, found}
use Rattle.elf_form.specs.Whole.{AllFound, IsSection}
use Rattle.elf_form.specs.Roles.{has_role}
use Rattle.elf_form.proofs.TableLaws.{found_on}
use Rattle.elf_form.proofs.roles.with_role.Given as goal

abbrev pub invariant-loop-i : goal.invariant-loop-i
invariant-loop-i l = record {
  so_far : found_on l.found (filter (has_role l.role l.names l.bytes) (entries (l.table + 40 * l.i) 40 (l.count - l.i))) ≡ found
      (filter (has_role l.role l.names l.bytes) (entries l.table 40 l.count));
  inside : AllFound (IsSection l.bytes) l.found;
}
