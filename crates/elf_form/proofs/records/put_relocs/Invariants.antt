use Rattle.std.proofs.Common.{◌≡◌, ◌++◌, take}
use Rattle.std.specs.Prelude.{map}
use Rattle.elf_form.specs.Symbols.{reloc_at}
use Rattle.elf_form.proofs.records.put_relocs.Given as goal

abbrev pub invariant-loop-e : goal.invariant-loop-e
invariant-loop-e l = l.out.items ≡ l.fn.out.items ++ map (reloc_at l.numbers l.names l.bytes) (take l.e-index l.entries)
