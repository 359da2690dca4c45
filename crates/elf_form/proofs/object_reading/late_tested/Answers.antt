use Rattle.elf_form.proofs.object_reading.late_tested.Goals as goal

pub kept_in-requires : goal.kept_in-requires
kept_in-requires c = c.requires.whole

pub kept_tested-requires : goal.kept_tested-requires
kept_tested-requires c = record { whole = c.requires.whole; limit = c.requires.limit; kept = c.in_ok-kept.ensures }
