use Rattle.std.proofs.Common.{◌≡◌, ◌++◌, ◌∷◌, length, take}
use Rattle.std.specs.Int.{w32, to_le_bytes}
use Rattle.std.specs.List.{flat_map}
use Rattle.trace_check.specs.Form.{choice_bytes}
use Rattle.trace_check.proofs.writing.written.Given as goal

abbrev pub invariant-loop-choice : goal.invariant-loop-choice
invariant-loop-choice l =
    l.out.items ≡ (80 ∷ 86 ∷ 84 ∷ 49 ∷ to_le_bytes w32 (length l.list)) ++ flat_map choice_bytes (take l.choice-index l.list)
