use Rattle.std.proofs.Common.{append_assoc}
use Rattle.elf_form.specs.ImageLayout.{header}
use Rattle.elf_form.proofs.image_writing.put_header.Goals as goal

pub returns-clause-bytes : goal.returns-clause-bytes
unfolding header
returns-clause-bytes c = rw (
  c.in_ok-put_halves-2.ensures,
  c.in_ok-put_longs.ensures,
  c.header_numbers.ensures.numbers,
  c.in_ok-put_halves.ensures,
  c.in_ok-extend_from_slice.ensures.items,
  c.sections_from-sections.ensures,
  ← c.image.view_is,
) (simp append_assoc)
