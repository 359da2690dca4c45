use Rattle.std.proofs.Common.{◌≡◌, take}
use Rattle.elf_link.specs.Layout.{bases}
use Rattle.elf_link.proofs.BaseLaws.{Begins}
use Rattle.elf_link.proofs.layout.bases.Given as goal

abbrev pub invariant-loop-object : goal.invariant-loop-object
invariant-loop-object l = record {
  so_far : l.out.items ≡ take l.object-index (bases l.objects.items);
  begins : Begins l.objects.items l.object-index l.text l.init l.bss;
}
