use Rattle.std.proofs.Common.{◌≡◌, ap, ◌∙◌}
use Rattle.elf_form.specs.ObjectLayout.{first_global}
use Rattle.elf_form.proofs.object_writing.put_table_sections.Goals as goal

pub returns : goal.returns
returns c =
    let l = c.requires.lengths in
    let global : c.first_global-global.result ≡ first_global c.args.object.now.symbols =
    c.first_global-global.ensures.number ∙ ap first_global (c.deref.ensures.value ∙ ap (λ o. o.symbols) c.object.view_is) in
    rw (← l.text_relocs, ← l.data_relocs, ← l.symbols, ← l.strings, ← c.requires.layout, ← global)
    (rw (
      c.at.ensures,
      c.at-2.ensures,
      c.at-3.ensures,
      c.at-4.ensures,
      c.at-5.ensures,
      c.relocations_section.ensures,
      c.relocations_section-2.ensures,
      c.symbols_section.ensures,
      c.names_section.ensures,
      c.names_section-2.ensures,
    ) at c.put_headers.ensures)
