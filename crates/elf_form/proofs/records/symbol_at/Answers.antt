use Rattle.std.proofs.Common.{refl}
use Rattle.elf_form.specs.Symbols.{symbol_at}
use Rattle.elf_form.proofs.records.symbol_at.Goals as goal

pub start_at-start-requires : goal.start_at-start-requires
start_at-start-requires c = record { whole = c.requires.whole; init = c.requires.init; bss = c.requires.bss }

pub role_at-requires : goal.role_at-requires
role_at-requires c = c.requires.whole

pub returns : goal.returns
unfolding symbol_at
returns c = rw (
  c.in_ok-from_slice.ensures.items,
  c.name_in-name.ensures,
  c.word.ensures,
  c.place_by.ensures,
  c.role_at.ensures.role,
  c.start_at-start.ensures,
  c.half-index.ensures,
  c.byte.ensures,
  c.word-2.ensures,
) refl
