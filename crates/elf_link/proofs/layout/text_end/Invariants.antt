use Rattle.std.proofs.Common.{◌≡◌, take}
use Rattle.std.specs.Prelude.{sum_by}
use Rattle.elf_link.specs.Layout.{text_room, text_end}
use Rattle.elf_link.proofs.layout.text_end.Given as goal

abbrev pub invariant-loop-object : goal.invariant-loop-object
invariant-loop-object l = record {
  room : l.at ≡ sum_by text_room (take l.object-index l.objects.items);
  end : l.end ≡ text_end (take l.object-index l.objects.items);
}
