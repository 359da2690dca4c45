use Rattle.std.proofs.Common.{◌++◌, sym, ap, ◌∙◌}
use Rattle.std.specs.List.{flat_map}
use Rattle.elf_form.specs.Symbols.{relocs_in, relocs_of, is_reloc_section_of}
use Rattle.elf_form.proofs.TableLaws.{filter-here, filter-next, filter-end}
use Rattle.elf_form.proofs.WholeLaws.{section_at}
use Rattle.elf_form.proofs.AppendLaws.{some_more, no_more}
use Rattle.elf_form.proofs.entries.entries_of.Goals as goal
use Rattle.elf_form.proofs.entries.entries_of.Goals.{then-is_reloc_section_of+in_ok-put_entries, else-is_reloc_section_of}

pub put_entries-requires-clause-section : goal.put_entries-requires-clause-section
put_entries-requires-clause-section c = section_at c.args.bytes.now c.word-table.result c.half-count.result c.loop-i.i c.word-table.ensures
    c.half-count.ensures c.requires c.loop-i-test.true

pub loop-i-preserved : goal.loop-i-preserved
loop-i-preserved c =
    elim c.if-is_reloc_section_of.branch [
      | then-is_reloc_section_of+in_ok-put_entries w ↦
          let here = ap (flat_map (relocs_in c.args.bytes.now))
          (filter-here (is_reloc_section_of c.args.role c.args.names.now c.args.bytes.now) c.word-table.result 40 c.half-count.result
          c.loop-i.i c.loop-i-test.true (sym c.is_reloc_section_of.ensures ∙ w.if-is_reloc_section_of.true)) in
          record {
            items = rw (w.out-is, w.in_ok-put_entries.ensures.items) (some_more c.loop-i.out.items _ _ _ here ∙ c.loop-i.invariant.items);
            inside = rw w.out-is w.in_ok-put_entries.ensures.inside;
          }
      | else-is_reloc_section_of w ↦
          let next = ap (flat_map (relocs_in c.args.bytes.now))
          (filter-next (is_reloc_section_of c.args.role c.args.names.now c.args.bytes.now) c.word-table.result 40 c.half-count.result
          c.loop-i.i c.loop-i-test.true (sym c.is_reloc_section_of.ensures ∙ w.if-is_reloc_section_of.false)) in
          record {
            items = rw w.out-is (ap (λ rest. c.loop-i.out.items ++ rest) (sym next) ∙ c.loop-i.invariant.items);
            inside = rw w.out-is c.loop-i.invariant.inside;
          }
    ]

pub returns-clause-items : goal.returns-clause-items
unfolding relocs_of
returns-clause-items c =
    let none = ap (flat_map (relocs_in c.args.bytes.now))
    (filter-end (is_reloc_section_of c.args.role c.args.names.now c.args.bytes.now) c.word-table.result 40 c.half-count.result c.loop-i.i
    c.loop-i-test.false) in
    rw (← c.word-table.ensures, ← c.half-count.ensures) (no_more c.loop-i.out.items _ none ∙ c.loop-i.invariant.items)
