use Rattle.std.proofs.Common.{◌≡◌, ◌≤◌, ◌+◌, length, map, drop, string_bytes, ◌++◌}
use Rattle.std.specs.Prelude.{option_map}
use Rattle.look_words.specs.Numbers.{all_addresses}
use Rattle.look_words.proofs.lists.all_addresses.Given as goal

abbrev pub invariant-loop-word : goal.invariant-loop-word
invariant-loop-word l = record {
  whole : option_map (λ ns. l.addresses.items ++ ns) (all_addresses (map string_bytes (drop l.word-index l.words))) ≡ all_addresses
      (map string_bytes l.words);
  count : length l.addresses.items ≡ l.word-index;
}
