use Rattle.std.proofs.Common.{length, refl}
use Rattle.elf_form.proofs.LowerPlaces.{lower_below}
use Rattle.elf_form.proofs.object_reading.kept_fault.Goals as goal

pub names-names-requires : goal.names-names-requires
names-names-requires c = c.requires.whole

pub table_of-table-requires : goal.table_of-table-requires
table_of-table-requires c = c.requires.whole

pub relocs_fault-text-requires : goal.relocs_fault-text-requires
relocs_fault-text-requires c =
    record { whole = c.requires.whole; table = c.table_of-table.ensures.inside; entries = rw c.deref.ensures.value c.requires.kept.in_text }

pub relocs_fault-init-requires : goal.relocs_fault-init-requires
relocs_fault-init-requires c = record {
  whole = c.requires.whole;
  table = c.table_of-table.ensures.inside;
  entries = rw c.deref-2.ensures.value c.requires.kept.in_init;
}

pub relocs_fault-bss-requires : goal.relocs_fault-bss-requires
relocs_fault-bss-requires c = record {
  whole = c.requires.whole;
  table = c.table_of-table.ensures.inside;
  entries = rw c.deref-3.ensures.value c.requires.kept.in_bss;
}

pub returns-clause-place : goal.returns-clause-place
returns-clause-place c =
    rw (
      c.lower-2.ensures,
      c.lower.ensures,
      c.relocs_fault-text.ensures.place,
      c.relocs_fault-init.ensures.place,
      c.relocs_fault-bss.ensures.place,
    )
    (rw (
      c.deref.ensures.value,
      c.deref-2.ensures.value,
      c.deref-3.ensures.value,
      c.requires.kept.text,
      c.requires.kept.init,
      c.requires.kept.bss,
      c.table_of-table.ensures.table,
      c.names-names.ensures,
    ) refl)

pub returns-clause-inside : goal.returns-clause-inside
returns-clause-inside c =
    lower_below (length c.args.bytes.now) _ _ _ c.lower-2.ensures c.relocs_fault-text.ensures.small
    (lower_below (length c.args.bytes.now) _ _ _ c.lower.ensures c.relocs_fault-init.ensures.small c.relocs_fault-bss.ensures.small)
