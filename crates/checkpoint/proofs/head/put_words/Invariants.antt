use Rattle.std.proofs.Common.{◌≡◌, ◌++◌, take}
use Rattle.std.specs.List.{flat_map}
use Rattle.checkpoint.specs.Head.{four}
use Rattle.checkpoint.proofs.head.put_words.Given as goal

abbrev pub invariant-loop-word : goal.invariant-loop-word
invariant-loop-word l = l.into.items ≡ l.initial.into.items ++ flat_map four (take l.word-index l.words)
