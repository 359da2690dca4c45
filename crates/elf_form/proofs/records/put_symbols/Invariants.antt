use Rattle.std.proofs.Common.{◌≡◌, ◌+◌, ◌*◌, ◌-◌, ◌++◌}
use Rattle.std.specs.Prelude.{map, filter}
use Rattle.elf_form.specs.Tables.{entries}
use Rattle.elf_form.specs.Symbols.{symbol_at, is_listed}
use Rattle.elf_form.proofs.records.put_symbols.Given as goal

abbrev pub invariant-loop-i : goal.invariant-loop-i
invariant-loop-i l = l.out.items
    ++ map (symbol_at l.strings l.names l.bytes) (filter (is_listed l.names l.bytes) (entries (l.first + 16 * l.i) 16 (l.count - l.i)))
    ≡ l.fn.out.items ++ map (symbol_at l.strings l.names l.bytes) (filter (is_listed l.names l.bytes) (entries l.first 16 l.count))
