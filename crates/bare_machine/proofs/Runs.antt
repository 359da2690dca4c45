-- Runs, a step at a time.
use Rattle.std.proofs.Common.{◌≡◌, List, [], ◌∷◌, ◌++◌, refl, ap, subst, ◌∙◌, inl}
use Rattle.std.proofs.lemmas.List.{append-nil}
use Rattle.run_trace.specs.declared.items.Item.{Item}
use Rattle.paging.specs.Part.{IsPartOf}
use Rattle.machine_model.specs.State.{Setting, State, Loosened}
use Rattle.machine_model.specs.Step.{Report, Went, step_of}
use Rattle.machine_model.specs.Run.{Set, Steps, trace_of, with_set}
pub use Rattle.machine_model.proofs.Runs.{steps_join, steps_one, no_steps, trace_join}
use Rattle.bare_machine.specs.Machine.{StepsBy}
pub use Rattle.machine_model.proofs.Counted.{same_step}

-- a part of the set may be gone by
pub part_allowed : (s : Setting) (b : State) (whole part : Set) → IsPartOf part whole → Loosened s (with_set b whole) part
part_allowed s b whole part h = record { each = λ page e is. inl (h.each page e is) }

pub part_same : (set : Set) → IsPartOf set set
part_same set = record { each = λ page e is. is }

-- one step more
pub steps_on : (s : Setting) (old mid new : State) (sets : List Set) (set : Set) (reports : List Report) (now : Report)
    → Steps s old sets reports mid → Loosened s mid set → step_of s mid set ≡ Went now new
    → Steps s old (sets ++ set ∷ []) (reports ++ now ∷ []) new
steps_on s old mid new sets set reports now steps allowed is =
    steps_join s old mid new sets (set ∷ []) reports (now ∷ []) steps (steps_one s mid new set now allowed is)

-- what was seen in one step more
pub trace_on : (reports : List Report) (now : Report) → trace_of (reports ++ now ∷ []) ≡ trace_of reports ++ now.items
trace_on reports now = trace_join reports (now ∷ []) ∙ ap (λ (l : List Item). trace_of reports ++ l) (append-nil now.items)

-- the same of steps by chosen translations
pub by_none : (s : Setting) (choose : State → Set) (b : State) → StepsBy s choose b [] b
unfolding StepsBy
by_none s choose b = refl

pub by_on : (s : Setting) (choose : State → Set) (old mid new : State) (reports : List Report) (now : Report)
    → StepsBy s choose old reports mid → step_of s mid (choose mid) ≡ Went now new → StepsBy s choose old (reports ++ now ∷ []) new
unfolding StepsBy
by_on s choose old mid new [] now so_far is = (new, subst (λ (b : State). step_of s b (choose b) ≡ Went now new) so_far is, refl)
by_on s choose old mid new (r ∷ reports) now so_far is = (so_far.0, so_far.1, by_on s choose so_far.0 mid new reports now so_far.2 is)

pub by_join : (s : Setting) (choose : State → Set) (old mid new : State) (reports later : List Report)
    → StepsBy s choose old reports mid → StepsBy s choose mid later new → StepsBy s choose old (reports ++ later) new
unfolding StepsBy
by_join s choose old mid new [] later first rest = subst (λ (b : State). StepsBy s choose b later new) first rest
by_join s choose old mid new (r ∷ reports) later first rest =
    (first.0, first.1, by_join s choose first.0 mid new reports later first.2 rest)
