use Rattle.std.proofs.Common.{◌≡◌, ◌+◌, ◌*◌, ◌-◌, ◌++◌}
use Rattle.std.specs.Prelude.{filter, All}
use Rattle.std.specs.List.{flat_map}
use Rattle.elf_form.specs.Tables.{entries}
use Rattle.elf_form.specs.Symbols.{relocs_in, is_reloc_section_of}
use Rattle.elf_form.specs.KeptRelocs.{IsEntry}
use Rattle.elf_form.proofs.entries.entries_of.Given as goal

abbrev pub invariant-loop-i : goal.invariant-loop-i
invariant-loop-i l = record {
  items : l.out.items ++ flat_map (relocs_in l.bytes)
      (filter (is_reloc_section_of l.role l.names l.bytes) (entries (l.table + 40 * l.i) 40 (l.count - l.i))) ≡ flat_map (relocs_in l.bytes)
      (filter (is_reloc_section_of l.role l.names l.bytes) (entries l.table 40 l.count));
  inside : All (IsEntry l.bytes) l.out.items;
}
