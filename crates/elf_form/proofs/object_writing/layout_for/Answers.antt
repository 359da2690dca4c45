use Rattle.std.proofs.Common.{refl}
use Rattle.elf_form.specs.ObjectLayout.{layout}
use Rattle.elf_form.proofs.object_writing.layout_for.Goals as goal

pub returns : goal.returns
unfolding layout
returns c =
    let l = c.requires in
    rw (
      c.next.ensures.exact,
      c.next-names.ensures.exact,
      c.next-text_relocs.ensures.exact,
      c.next-sites.ensures.exact,
      c.next-init.ensures.exact,
    )
    (rw (l.text, l.init, l.sites, l.text_relocs, l.data_relocs, l.symbols, l.strings) refl)
