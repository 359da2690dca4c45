use Rattle.std.proofs.Common.{◌≡◌, ℕ, ◌<◌, ◌^◌, List, ◌++◌, replicate, take}
use Rattle.std.specs.Prelude.{All}
use Rattle.std.specs.List.{flat_map}
use Rattle.elf_form.specs.Writable.{HasPlaces}
use Rattle.elf_form.specs.ObjectLayout.{symbol_bytes}
use Rattle.elf_form.proofs.object_writing.put_symbols.Given as goal

abbrev pub invariant-loop-s : goal.invariant-loop-s
invariant-loop-s l = record {
  bytes : (names : List (List ℕ)) → HasPlaces names l.places → l.out.items ≡ l.fn.out.items
      ++ (replicate 16 0 ++ flat_map (symbol_bytes names) (take l.s-index l.symbols));
  values : All (λ s. s.value < 2 ^ 32) (take l.s-index l.symbols);
}
