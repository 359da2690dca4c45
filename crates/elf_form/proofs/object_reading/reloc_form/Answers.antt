use Rattle.std.proofs.Common.{length, refl}
use Rattle.elf_form.specs.ObjectReading.{reloc_form}
use Rattle.elf_form.proofs.LowerPlaces.{lower_below}
use Rattle.elf_form.proofs.object_reading.reloc_form.Goals as goal

pub table_of-requires : goal.table_of-requires
table_of-requires c = c.requires.whole

pub names-requires : goal.names-requires
names-requires c = c.requires.whole

pub sections_fault-links-requires : goal.sections_fault-links-requires
sections_fault-links-requires c = c.requires.whole

pub kept_fault-requires : goal.kept_fault-requires
kept_fault-requires c = record { whole = c.requires.whole; kept = c.requires.kept }

pub returns-clause-place : goal.returns-clause-place
unfolding reloc_form
returns-clause-place c =
    rw (c.lower.ensures, c.sections_fault-links.ensures.place, c.kept_fault.ensures.place, c.table_of.ensures.table, c.names.ensures) refl

pub returns-clause-inside : goal.returns-clause-inside
returns-clause-inside c =
    lower_below (length c.args.bytes.now) _ _ _ c.lower.ensures c.sections_fault-links.ensures.inside c.kept_fault.ensures.inside
