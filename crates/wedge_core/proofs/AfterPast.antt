-- The rule for kept translations over steps that go on after others.
use Rattle.std.proofs.Common.{◌≡◌, List, [], ◌∷◌, ◌++◌, sym, ap, subst, ◌∙◌, append_assoc}
use Rattle.machine_model.specs.State.{Setting, State}
use Rattle.machine_model.specs.Step.{Report}
use Rattle.machine_model.specs.Run.{Set, Steps}
use Rattle.machine_model.specs.Taken.{Taken, steps_by}
use Rattle.machine_model.specs.Keeping.{Roomy, IsKept, Kept}
use Rattle.machine_model.proofs.Runs.{ends_there}
use Rattle.machine_model.proofs.Splits.{Split, At_end, Within, none_some, split_of}
use Rattle.wedge_core.specs.KeptAfter.{KeptAfter}

-- no step is kept or not
pub none_after : (m : Setting) (past : List Taken) (b : State) → KeptAfter m past b []
none_after m past b = record { each = λ front set back reports now is there roomy. absurd (none_some front set back is) }

-- with no steps before
pub kept_first : (m : Setting) (old : State) (sets : List Set) → KeptAfter m [] old sets → Kept m old sets
kept_first m old sets k = record { each = λ front set back reports now is there roomy. k.each front set back reports now is there roomy }

-- one step more, after all of them
pub past_joined : (past some all : List Taken) (t : Taken) → all ≡ some ++ t ∷ [] → past ++ all ≡ (past ++ some) ++ t ∷ []
past_joined past some all t is = ap (λ (l : List Taken). past ++ l) is ∙ sym (append_assoc past some (t ∷ []))

module _ (m : Setting) (past : List Taken) (old mid : State) (sets : List Set) (set : Set) (reports : List Report)
    (steps : Steps m old sets reports mid) (kept : KeptAfter m past old sets)
    (last : Roomy (past ++ steps_by m old sets) → IsKept m (past ++ steps_by m old sets) mid set) where
  each_after : (front : List Set) (x : Set) (back : List Set) (seen : List Report) (now : State) → Split sets set front x back
      → Steps m old front seen now
      → Roomy (past ++ steps_by m old front) → IsKept m (past ++ steps_by m old front) now x
  each_after front x back seen now (At_end same is none) there roomy =
      let state : mid ≡ now =
      ends_there m old mid now sets reports seen steps (subst (λ (l : List Set). Steps m old l seen now) same there) in
      subst (λ (l : List Set). IsKept m (past ++ steps_by m old l) now x) (sym same)
      (subst (λ (b : State). IsKept m (past ++ steps_by m old sets) b x) state
      (subst (λ (s : Set). IsKept m (past ++ steps_by m old sets) mid s) (sym is)
      (last (subst (λ (l : List Set). Roomy (past ++ steps_by m old l)) same roomy))))
  each_after front x back seen now (Within c same rest) there roomy = kept.each front x c seen now same there roomy

  -- with one step more, which goes or stops, and of which the rule holds, the rule holds of all
  pub kept_after_on : KeptAfter m past old (sets ++ set ∷ [])
  kept_after_on = record {
    each = λ front x back seen now e there roomy. each_after front x back seen now (split_of sets set front x back e) there roomy;
  }
