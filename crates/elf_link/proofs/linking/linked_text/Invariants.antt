use Rattle.std.proofs.Common.{◌≡◌, take, true}
use Rattle.elf_link.specs.Layout.{numbered}
use Rattle.elf_link.proofs.JoinLaws.{joined}
use Rattle.elf_link.proofs.linking.linked_text.Given as goal

abbrev pub invariant-loop-i : goal.invariant-loop-i
invariant-loop-i l = l.out.items ≡ joined l.objects.items 16 0x90 true (take l.i (numbered l.objects.items))
