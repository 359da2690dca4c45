use Rattle.std.proofs.Common.{◌≡◌, map, drop, string_bytes}
use Rattle.std.specs.List.{list_all}
use Rattle.pv_words.specs.Words.{is_name}
use Rattle.pv_words.proofs.words.are_names.Given as goal

abbrev pub invariant-loop-word : goal.invariant-loop-word
invariant-loop-word l = list_all is_name (map string_bytes (drop l.word-index l.words)) ≡ list_all is_name (map string_bytes l.words)
