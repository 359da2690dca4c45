use Rattle.std.proofs.Common.{refl}
use Rattle.elf_form.specs.ObjectReading.{strings_of}
use Rattle.elf_form.proofs.object_conditions.strings_of.Goals as goal

pub table_of-requires : goal.table_of-requires
table_of-requires c = c.requires

pub strings_in-requires : goal.strings_in-requires
strings_in-requires c = c.requires

pub returns : goal.returns
unfolding strings_of
returns c = rw (c.strings_in.ensures, c.word.ensures, c.table_of.ensures.table) refl
