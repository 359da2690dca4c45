-- Parts of a run are one run.
use Rattle.std.proofs.Common.{◌≡◌, ℕ, List, [], ◌∷◌, ◌++◌, Some, sym, ap, subst, ◌∙◌, inl, inr}
use Rattle.std.proofs.lemmas.List.{append-nil}
use Rattle.std.specs.Prelude.{◌⊎◌}
use Rattle.std.specs.FinMap.{get}
use Rattle.paging.specs.declared.entry.Entry.{Entry}
use Rattle.run_trace.specs.declared.pause.Pause.TheVariants.{Reached, Stopped}
use Rattle.paging.specs.Part.{IsPartOf}
use Rattle.machine_model.specs.State.{Setting, State, Loosened, IsCacheable}
use Rattle.machine_model.specs.Step.{Report}
use Rattle.machine_model.specs.Run.{Set, Steps, with_set}
use Rattle.bare_machine.specs.Machine.{FirstIs}
use Rattle.bare_machine.specs.Parts.{Leads, BeginsHere, SliceGoesOn, ChangeGoesOn, LossGoesOn, PartsAreARun}
use Rattle.bare_machine.proofs.Runs.{part_allowed, same_step, steps_join, no_steps}

pub begins_here : BeginsHere
begins_here s b = record { sets = []; whole = b.set; steps = no_steps s b; loosened = record { each = λ page e is. inl is } }

pub change_goes_on : ChangeGoesOn
change_goes_on s old now reports set l h = record { sets = l.sets; whole = l.whole; steps = l.steps; loosened = h }

-- an entry that was held or may be cached
held : (s : Setting) (now : State) (whole : Set) (page : ℕ) (e : Entry) → Loosened s (with_set now whole) now.set
    → (get now.set page ≡ Some e) ⊎ IsCacheable s now page e → (get whole page ≡ Some e) ⊎ IsCacheable s (with_set now whole) page e
held s now whole page e l (inl is) = l.each page e is
held s now whole page e l (inr c) = inr (record {
  page_in = c.page_in;
  dir_at = c.dir_at;
  word_at = c.word_at;
  dirty = c.dirty;
  found = c.found;
  accessed = c.accessed;
  is_dirty = c.is_dirty;
})

pub loss_goes_on : LossGoesOn
loss_goes_on s old now reports set l h = record {
  sets = l.sets;
  whole = l.whole;
  steps = l.steps;
  loosened = record { each = λ page e is. held s now l.whole page e l.loosened (h.each page e is) };
}

-- the set that the steps begin with makes no difference in them
from_whole : (s : Setting) (now new : State) (whole set : Set) (sets : List Set) (reports : List Report)
    → Loosened s (with_set now whole) now.set → set ≡ now.set → Steps s now (set ∷ sets) reports new
    → Steps s (with_set now whole) (set ∷ sets) reports new
unfolding Steps
from_whole s now new whole set sets reports l is h = (
  h.0,
  h.1,
  h.2,
  subst (λ (x : Set). Loosened s (with_set now whole) x) (sym is) l,
  same_step s now whole set ∙ h.4,
  h.5,
  h.6,
)

joined : (s : Setting) (old now new : State) (whole left_then : Set) (before sets : List Set) (reports later : List Report)
    → Steps s old before reports (with_set now whole) → Loosened s (with_set now whole) now.set
    → Steps s now sets later (with_set new left_then) → IsPartOf new.set left_then → FirstIs now.set (sets ++ new.set ∷ [])
    → Leads s old (reports ++ later) new
unfolding Steps
joined s old now new whole left_then before [] reports later steps l h part first =
    let same : with_set new whole ≡ with_set now whole = ap (λ (b : State). with_set b whole) h.1 in
    record {
      sets = before;
      whole = whole;
      steps = subst (λ (b : State). Steps s old before (reports ++ later) b) (sym same)
          (subst (λ (r : List Report). Steps s old before r (with_set now whole))
          (sym (ap (λ (r : List Report). reports ++ r) h.0 ∙ append-nil reports)) steps);
      loosened =
          subst (λ (b : State). Loosened s b new.set) (sym same) (subst (λ (x : Set). Loosened s (with_set now whole) x) (sym first) l);
    }
joined s old now new whole left_then before (set ∷ sets) reports later steps l h part first = record {
  sets = before ++ set ∷ sets;
  whole = left_then;
  steps = steps_join s old (with_set now whole) (with_set new left_then) before (set ∷ sets) reports later steps
      (from_whole s now (with_set new left_then) whole set sets later l first h);
  loosened = part_allowed s new left_then new.set part;
}

pub slice_goes_on : SliceGoesOn
slice_goes_on s exact old now new reports later l p =
    joined s old now new l.whole p.whole l.sets p.sets reports later l.steps l.loosened p.steps p.part p.first

pub parts_are_a_run : PartsAreARun
parts_are_a_run s n old last new reports Reached l h = record { steps = l.steps; ends = h.0 }
parts_are_a_run s n old last new reports (Stopped stop) l h = record {
  steps = l.steps;
  ends = (h.0, record { set = last.set; allowed = l.loosened; halts = same_step s last l.whole last.set ∙ h.2 });
}
