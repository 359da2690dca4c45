use Rattle.std.proofs.Common.{◌≡◌, None, Some, sym, ap, ◌∙◌}
use Rattle.std.specs.FinMap.{get, get-empty}
use Rattle.std.specs.Ordering.{nat_cmp}
use Rattle.system_vectors.proofs.steps.is_step.Goals as goal

none_some : {X : Type 0} (x : X) → None ≡ Some x → ⊥
none_some x h = cc

-- src/steps.rt, where the TLB is made
pub begin_again-requires-clause-within : goal.begin_again-requires-clause-within
begin_again-requires-clause-within g c =
    λ page e found. absurd (none_some e (sym (get-empty nat_cmp page) ∙ (ap (λ m. get m page) (sym c.new.ensures) ∙ found)))
