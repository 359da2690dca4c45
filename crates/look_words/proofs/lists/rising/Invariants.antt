use Rattle.std.proofs.Common.{◌≡◌, ◌≤◌, ◌^◌, ◌+◌, ℕ, get_or, length, map, drop, string_bytes, ◌++◌}
use Rattle.std.specs.Prelude.{option_map}
use Rattle.look_words.specs.Numbers.{rising_from}
use Rattle.look_words.proofs.lists.rising.Given as goal

abbrev pub invariant-loop-word : goal.invariant-loop-word
invariant-loop-word l = record {
  whole : option_map (λ ns. l.steps.items ++ ns) (rising_from l.least (map string_bytes (drop l.word-index l.words))) ≡ rising_from 0
      (map string_bytes l.words);
  count : length l.steps.items ≡ l.word-index;
  limits : (i : ℕ) → get_or l.steps.items i 0 ≤ 2 ^ 40;
  least : l.least ≤ 2 ^ 40 + 1;
}
