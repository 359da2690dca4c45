use Rattle.std.proofs.Common.{◌≡◌, length, take, fold}
use Rattle.elf_link.specs.Relocations.{filled, contents_of}
use Rattle.elf_link.proofs.relocations.with_fields.Given as goal

abbrev pub invariant-loop-reloc : goal.invariant-loop-reloc
invariant-loop-reloc l = record {
  so_far : l.bytes.items ≡ fold (filled l.plan.bases.items l.plan.globals (l.number, l.object) l.in_text) (contents_of l.in_text l.object)
      (take l.reloc-index l.object.relocs);
  room : length l.bytes.items ≡ length (contents_of l.in_text l.object);
}
