use Rattle.elf_link.proofs.ExportLaws.{Exporting}
use Rattle.elf_link.proofs.globals.export.Given as goal

abbrev pub invariant-loop-symbol : goal.invariant-loop-symbol
invariant-loop-symbol l = Exporting l.number l.fn.globals l.globals l.symbols l.symbol-index
