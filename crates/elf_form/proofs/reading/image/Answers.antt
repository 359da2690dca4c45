use Rattle.elf_form.proofs.reading.image.Goals as goal

pub named-requires : goal.named-requires
named-requires c = c.in_ok-text.ensures.places.0

pub named-requires-2 : goal.named-requires-2
named-requires-2 c = c.in_ok-text.ensures.places.1

pub contents-requires : goal.contents-requires
contents-requires c = c.in_ok-text.ensures.places.2
