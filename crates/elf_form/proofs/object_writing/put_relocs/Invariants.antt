use Rattle.std.proofs.Common.{◌≡◌, ◌++◌, take}
use Rattle.elf_form.specs.ObjectLayout.{reloc_table}
use Rattle.elf_form.proofs.object_writing.put_relocs.Given as goal

abbrev pub invariant-loop-r : goal.invariant-loop-r
invariant-loop-r l = l.out.items ≡ l.fn.out.items ++ reloc_table l.in_text (take l.r-index l.relocs)
