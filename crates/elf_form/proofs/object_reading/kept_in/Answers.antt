use Rattle.elf_form.proofs.object_reading.kept_in.Goals as goal

pub names-names-requires : goal.names-names-requires
names-names-requires c = c.requires

pub entries_of-requires : goal.entries_of-requires
entries_of-requires c = c.requires

pub entries_of-requires-2 : goal.entries_of-requires-2
entries_of-requires-2 c = c.requires

pub entries_of-requires-3 : goal.entries_of-requires-3
entries_of-requires-3 c = c.requires
