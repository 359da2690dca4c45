use Rattle.std.proofs.Common.{refl}
use Rattle.trace_check.proofs.Holding.{none_held, whole_at_first}
use Rattle.trace_check.proofs.whole_set.WholeSet.new.Goals as goal

pub returns : goal.returns
returns c = none_held c.in_ok-words.words.items 1048576 (c.in_ok-words.ensures.items_if_clones_equal (λ y h. h))

pub invariant_of-result : goal.invariant_of-result
invariant_of-result c = whole_at_first c.in_ok-words.words.items c.in_ok-marks.marks.items 1048576 1024
    (c.in_ok-words.ensures.items_if_clones_equal (λ y h. h)) (c.in_ok-marks.ensures.items_if_clones_equal (λ x h. h)) refl refl
