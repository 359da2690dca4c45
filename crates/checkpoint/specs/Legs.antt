-- A run in legs. Between two of them it rests as a checkpoint, which keeps no translations, and goes on by the same rules or
-- by others.
use Rattle.std.specs.Prelude.{◌≡◌, ℕ, List, [], ◌∷◌, ◌++◌}
use Rattle.std.specs.List.{flat_map}
use Rattle.std.specs.FinMap.{empty}
use Rattle.paging.specs.Space.{Mode}
use Rattle.run_trace.specs.declared.items.End.{End}
use Rattle.machine_model.specs.State.{Setting, State, boot}
use Rattle.machine_model.specs.OnBare.{on_bare, end_on_bare, bound_on_bare}
use Rattle.machine_model.specs.Step.{Report}
use Rattle.machine_model.specs.Run.{Set, Steps, Run, EndsIn, trace_of, with_set}

-- the rules of a leg, the translations by which each of its steps went, and what the steps reported
pub record Leg : Type 0 where
  pub mode : Mode
  pub sets : List Set
  pub reports : List Report

abbrev pub in_mode : Setting → Mode → Setting
in_mode m mode = record m { mode = mode }

-- the state without translations
abbrev pub rested : State → State
rested b = with_set b empty

-- legs one after the other, each from where the one before ended
unfoldable pub Legs : Setting → State → List Leg → State → Type 0
Legs m old [] new = new ≡ old
Legs m old (leg ∷ legs) new = (mid : State) × Steps (in_mode m leg.mode) (rested old) leg.sets leg.reports mid × Legs m mid legs new

-- parts of one run, each by its own rules, with nothing dropped between them but what a step may drop
unfoldable pub Parts : Setting → State → List Leg → State → Type 0
Parts m old [] new = new ≡ old
Parts m old (leg ∷ legs) new = (mid : State) × Steps (in_mode m leg.mode) old leg.sets leg.reports mid × Parts m mid legs new

abbrev pub sets_of : List Leg → List Set
sets_of legs = flat_map (λ (leg : Leg). leg.sets) legs

abbrev pub reports_of : List Leg → List Report
reports_of legs = flat_map (λ (leg : Leg). leg.reports) legs

-- legs are steps of the bare machine, which may have translations after the last one
abbrev pub LegsAreSteps : Type 0
LegsAreSteps =
    (m : Setting) (old new : State) (legs : List Leg)
    → Legs m old legs new → (whole : Set) × Steps (on_bare m) old (sets_of legs) (reports_of legs) (with_set new whole)

-- legs from the start, and one more that ends, are one run of the bare machine up to this end, or up to a stop that the bare
-- machine hasn't
abbrev pub LegsAreARun : Type 0
LegsAreARun =
    (m : Setting) (n : ℕ) (legs : List Leg) (leg : Leg) (mid last : State) (end : End)
    → Legs m (boot m) legs mid → Run (in_mode m leg.mode) n (rested mid) leg.sets leg.reports last end
    → (whole : Set)
    × Run (on_bare m) (bound_on_bare n last end) (boot m) (sets_of legs ++ leg.sets) (reports_of legs ++ leg.reports)
    (with_set last whole) (end_on_bare end)

-- legs from the start, and one more that ends, are the parts of one run from there, which ends so by the rules of the last
abbrev pub LegsAreParts : Type 0
LegsAreParts =
    (m : Setting) (n : ℕ) (legs : List Leg) (leg : Leg) (mid last : State) (end : End)
    → Legs m (boot m) legs mid → Run (in_mode m leg.mode) n (rested mid) leg.sets leg.reports last end
    → (whole : Set) × Parts m (boot m) (legs ++ leg ∷ []) (with_set last whole) × EndsIn (in_mode m leg.mode) n (with_set last whole) end

-- and what was seen in it is what was seen in the legs, one after the other
abbrev pub TracesJoin : Type 0
TracesJoin =
    (legs : List Leg) (leg : Leg)
    → trace_of (reports_of legs ++ leg.reports) ≡ flat_map (λ (l : Leg). trace_of l.reports) legs ++ trace_of leg.reports
