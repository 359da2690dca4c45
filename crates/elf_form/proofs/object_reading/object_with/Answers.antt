use Rattle.std.proofs.Common.{refl}
use Rattle.elf_form.specs.ObjectReading.{object_at}
use Rattle.elf_form.proofs.object_reading.object_with.Goals as goal

pub returns : goal.returns
unfolding object_at
returns c =
    rw (c.in_ok-parts.ensures.text, c.in_ok-parts.ensures.init, c.in_ok-parts.ensures.sites, c.requires.zeroed)
    (rw (
      c.in_ok-put_symbols.ensures,
      c.new-symbols.ensures.items,
      c.in_ok-put_kept.ensures,
      c.new-relocs.ensures.items,
      c.table_of-table.ensures.table,
      c.strings_of.ensures,
      c.names-names.ensures,
    ) refl)

pub names-names-requires : goal.names-names-requires
names-names-requires c = c.requires.whole

pub table_of-table-requires : goal.table_of-table-requires
table_of-table-requires c = c.requires.whole

pub parts_in-requires : goal.parts_in-requires
parts_in-requires c = c.requires.whole

pub strings_of-requires : goal.strings_of-requires
strings_of-requires c = c.requires.whole

pub put_symbols-requires : goal.put_symbols-requires
put_symbols-requires c = record {
  whole = c.requires.whole;
  init = rw c.names-names.ensures c.requires.init;
  bss = rw c.names-names.ensures c.requires.bss;
  table = c.table_of-table.ensures.inside;
}

pub put_kept-requires : goal.put_kept-requires
put_kept-requires c = record { whole = c.requires.whole; kept = c.requires.kept; init = c.requires.init; bss = c.requires.bss }
