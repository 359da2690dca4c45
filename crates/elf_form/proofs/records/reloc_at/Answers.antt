use Rattle.elf_form.proofs.records.reloc_at.Goals as goal

pub start_at-requires : goal.start_at-requires
start_at-requires c = record { whole = c.requires.whole; init = c.requires.init; bss = c.requires.bss }
