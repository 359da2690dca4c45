use Rattle.std.proofs.Common.{◌≡◌, ◌+◌, ◌*◌, ◌-◌}
use Rattle.elf_form.specs.Tables.{entries, first_some}
use Rattle.elf_form.specs.Symbols.{section_test}
use Rattle.elf_form.proofs.symbol_walks.sections_fault.Given as goal

abbrev pub invariant-loop-i : goal.invariant-loop-i
invariant-loop-i l = first_some (section_test l.test l.table l.names l.bytes) (entries (l.first + 40 * l.i) 40 (l.count - l.i)) ≡ first_some
    (section_test l.test l.table l.names l.bytes) (entries l.first 40 l.count)
