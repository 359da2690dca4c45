use Rattle.std.proofs.Common.{◌≡◌, ◌+◌, ◌*◌, ◌-◌}
use Rattle.elf_form.specs.Tables.{entries, first_some}
use Rattle.elf_form.specs.Symbols.{symbol_test}
use Rattle.elf_form.proofs.symbol_walks.symbols_fault.Given as goal

abbrev pub invariant-loop-i : goal.invariant-loop-i
invariant-loop-i l = first_some (symbol_test l.test l.strings l.names l.bytes) (entries (l.first + 16 * l.i) 16 (l.count - l.i))
    ≡ first_some (symbol_test l.test l.strings l.names l.bytes) (entries l.first 16 l.count)
