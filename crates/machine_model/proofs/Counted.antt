-- Steps are counted one by one, whatever set stands in the state before.
use Rattle.std.proofs.Common.{◌≡◌, ◌+◌, List, [], ◌∷◌, length, refl, ap, subst, arith}
use Rattle.machine_model.specs.State.{Setting, State}
use Rattle.machine_model.specs.Step.{Report, Went, step_of}
use Rattle.machine_model.specs.Run.{Set, Steps, with_set}
use Rattle.machine_model.specs.Ends.{StepsTo}
use Rattle.machine_model.proofs.Counting.{each_counts}

-- the set before the step is the one that was chosen
pub same_step : (m : Setting) (b : State) (whole set : Set) → step_of m (with_set b whole) set ≡ step_of m b set
unfolding step_of
same_step m b whole set = refl

pub counted_by : (m : Setting) (b mid : State) (set : Set) (now : Report) → step_of m b set ≡ Went now mid → mid.step ≡ b.step + 1
counted_by m b mid set now is = subst (StepsTo (b.step + 1)) is (each_counts m b set)

-- each step was counted
pub steps_counted : (m : Setting) (old : State) (sets : List Set) (reports : List Report) (last : State) → Steps m old sets reports last
    → last.step ≡ old.step + length sets
unfolding Steps
steps_counted m old [] reports last h =
    let is = ap (λ (b : State). b.step) h.1 in
    omega (arith, is)
steps_counted m old (set ∷ sets) reports last h =
    let one = counted_by m old h.0 set h.1 h.4 in
    let more = steps_counted m h.0 sets h.2 last h.5 in
    omega (arith, one, more)
