use Rattle.elf_form.proofs.object_writing.put_part_sections.Goals as goal

pub returns : goal.returns
returns c =
    let l = c.requires.lengths in
    rw (← l.text, ← l.init, ← l.sites, ← c.requires.layout, ← c.object.view_is)
    (rw (c.at.ensures, c.at-2.ensures, c.at-3.ensures, c.at-4.ensures, c.bss_section.ensures) at c.put_headers.ensures)
