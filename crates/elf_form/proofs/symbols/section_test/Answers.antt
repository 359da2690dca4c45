use Rattle.std.proofs.Common.{lit<}
use Rattle.elf_form.proofs.symbols.section_test.Goals as goal

pub is_reloc_section-requires : goal.is_reloc_section-requires
is_reloc_section-requires c = record { whole = c.requires.whole; inside = c.requires.inside }

pub is_linked-requires : goal.is_linked-requires
is_linked-requires c = record { whole = c.requires.whole; inside = c.requires.inside }

pub entries_fault-requires : goal.entries_fault-requires
entries_fault-requires c = record { inside = c.requires.inside; entry = lit< tt }
