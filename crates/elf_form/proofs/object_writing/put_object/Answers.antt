use Rattle.std.proofs.Common.{length, ap}
use Rattle.elf_form.specs.ObjectLayout.{object_header, object_parts, object_tables, part_sections, table_sections, object_bytes}
use Rattle.elf_form.specs.Output.{longs}
use Rattle.elf_form.proofs.AppendLaws.{chain_file}
use Rattle.elf_form.proofs.object_writing.put_object.Goals as goal

pub lengths_of-lengths-requires-clause-writable : goal.lengths_of-lengths-requires-clause-writable
lengths_of-lengths-requires-clause-writable c = c.requires.writable

pub lengths_of-lengths-requires-clause-strings : goal.lengths_of-lengths-requires-clause-strings
lengths_of-lengths-requires-clause-strings c = ap length c.requires.strings

pub layout_for-layout-requires : goal.layout_for-layout-requires
layout_for-layout-requires c = c.lengths_of-lengths.ensures

pub put_header-requires : goal.put_header-requires
put_header-requires c = record { writable = c.requires.writable; layout = c.layout_for-layout.ensures }

pub put_parts-requires : goal.put_parts-requires
put_parts-requires c = record { writable = c.requires.writable; layout = c.layout_for-layout.ensures }

pub put_tables-requires : goal.put_tables-requires
put_tables-requires c = record {
  writable = c.requires.writable;
  strings = c.requires.strings;
  places = c.requires.places;
  layout = c.layout_for-layout.ensures;
}

pub put_part_sections-requires : goal.put_part_sections-requires
put_part_sections-requires c = record { lengths = c.lengths_of-lengths.ensures; layout = c.layout_for-layout.ensures }

pub put_table_sections-requires : goal.put_table_sections-requires
put_table_sections-requires c =
    record { count = c.requires.writable.count; lengths = c.lengths_of-lengths.ensures; layout = c.layout_for-layout.ensures }

pub returns-clause-bytes : goal.returns-clause-bytes
unfolding object_bytes
returns-clause-bytes c =
    let o = c.args.object.now in
    rw (
      c.in_ok-put_table_sections.ensures,
      c.in_ok-put_part_sections.ensures,
      c.in_ok-put_tables.ensures.bytes,
      c.in_ok-put_parts.ensures,
      c.in_ok-put_header.ensures,
    )
    (chain_file c.args.out.now.items (object_header o) (object_parts o) (object_tables o) (longs (part_sections o))
    (longs (table_sections o)))

pub returns-clause-values : goal.returns-clause-values
returns-clause-values c = c.in_ok-put_tables.ensures.values
