use Rattle.elf_link.specs.Relocations.{reloc_cause}
use Rattle.elf_link.proofs.FirstLaws.{Passed}
use Rattle.elf_link.proofs.relocations.relocs_cause.Given as goal

abbrev pub invariant-loop-reloc : goal.invariant-loop-reloc
invariant-loop-reloc l = Passed (reloc_cause l.globals (l.number, l.object)) l.object.relocs l.reloc-index
