use Rattle.elf_form.proofs.object_conditions.symbol_names_fault.Goals as goal

pub table_of-table-requires : goal.table_of-table-requires
table_of-table-requires c = c.requires.whole

pub has_strings-requires : goal.has_strings-requires
has_strings-requires c = c.requires.whole

pub strings_of-requires : goal.strings_of-requires
strings_of-requires c = c.requires.whole

pub names-requires : goal.names-requires
names-requires c = c.requires.whole

pub symbols_fault-requires : goal.symbols_fault-requires
symbols_fault-requires c = record { whole = c.requires.whole; table = c.table_of-table.ensures.inside }
