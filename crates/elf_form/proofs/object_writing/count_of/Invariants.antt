use Rattle.std.proofs.Common.{◌≡◌, ◌≤◌, take}
use Rattle.std.specs.Prelude.{count_by}
use Rattle.elf_form.specs.ObjectLayout.{is_of}
use Rattle.elf_form.proofs.object_writing.count_of.Given as goal

abbrev pub invariant-loop-r : goal.invariant-loop-r
invariant-loop-r l = record {
  counted : l.count ≡ count_by (is_of l.in_text) (take l.r-index l.relocs);
  small : l.count ≤ l.r-index;
}
