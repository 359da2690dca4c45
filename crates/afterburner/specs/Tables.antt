-- Relocations by a table of the places of their symbols.
use Rattle.std.specs.Prelude.{ℕ, List, slice_index}
use Rattle.elf_form.specs.declared.object.Reloc.{Reloc}

abbrev pub with_number : List ℕ → Reloc → Reloc
with_number numbers r = record r { symbol = slice_index numbers r.symbol }
