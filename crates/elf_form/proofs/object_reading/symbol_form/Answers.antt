use Rattle.std.proofs.Common.{length, refl}
use Rattle.elf_form.specs.ObjectReading.{symbol_form}
use Rattle.elf_form.proofs.LowerPlaces.{lower_below}
use Rattle.elf_form.proofs.object_reading.symbol_form.Goals as goal

pub names-names-requires : goal.names-names-requires
names-names-requires c = c.requires.whole

pub table_of-table-requires : goal.table_of-table-requires
table_of-table-requires c = c.requires.whole

pub strings_of-requires : goal.strings_of-requires
strings_of-requires c = c.requires.whole

pub symbols_fault-globals-requires : goal.symbols_fault-globals-requires
symbols_fault-globals-requires c = record { whole = c.requires.whole; table = c.table_of-table.ensures.inside }

pub kept_fault-requires : goal.kept_fault-requires
kept_fault-requires c = record { whole = c.requires.whole; kept = c.requires.kept }

pub returns-clause-place : goal.returns-clause-place
unfolding symbol_form
returns-clause-place c = rw (
  c.lower.ensures,
  c.symbols_fault-globals.ensures.place,
  c.kept_fault.ensures.place,
  c.table_of-table.ensures.table,
  c.strings_of.ensures,
  c.names-names.ensures,
) refl

pub returns-clause-inside : goal.returns-clause-inside
returns-clause-inside c =
    lower_below (length c.args.bytes.now) _ _ _ c.lower.ensures c.symbols_fault-globals.ensures.inside c.kept_fault.ensures.inside
