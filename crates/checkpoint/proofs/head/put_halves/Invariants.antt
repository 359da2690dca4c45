use Rattle.std.proofs.Common.{◌≡◌, ◌++◌, take}
use Rattle.std.specs.List.{flat_map}
use Rattle.checkpoint.specs.Head.{two}
use Rattle.checkpoint.proofs.head.put_halves.Given as goal

abbrev pub invariant-loop-half : goal.invariant-loop-half
invariant-loop-half l = l.into.items ≡ l.initial.into.items ++ flat_map two (take l.half-index l.halves)
