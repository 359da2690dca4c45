use Rattle.std.proofs.Common.{take}
use Rattle.elf_form.specs.Writable.{IsStringTable}
use Rattle.elf_form.specs.ObjectLayout.{names_of}
use Rattle.elf_form.proofs.strings.strings.Given as goal

abbrev pub invariant-loop-s : goal.invariant-loop-s
invariant-loop-s l = IsStringTable (names_of (take l.s-index l.symbols)) l.strings.items l.places
