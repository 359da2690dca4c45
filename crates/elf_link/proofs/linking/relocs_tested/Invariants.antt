use Rattle.elf_link.specs.Layout.{numbered}
use Rattle.elf_link.specs.Refusals.{relocs_refusal}
use Rattle.elf_link.proofs.FirstLaws.{Passed}
use Rattle.elf_link.proofs.linking.relocs_tested.Given as goal

abbrev pub invariant-loop-i : goal.invariant-loop-i
invariant-loop-i l = Passed (relocs_refusal l.objects.items) (numbered l.objects.items) l.i
