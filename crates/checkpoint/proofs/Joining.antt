-- Legs of a run are one run.
use Rattle.std.proofs.Common.{◌≡◌, ℕ, List, [], ◌∷◌, ◌++◌, Option, Some, None, refl, sym, ap, subst, ◌∙◌, inl, inr, append_assoc}
use Rattle.std.specs.Prelude.{◌⊎◌}
use Rattle.std.specs.List.{flat_map}
use Rattle.std.specs.FinMap.{get, empty, get-empty}
use Rattle.std.specs.Ordering.{nat_cmp}
use Rattle.std.proofs.lemmas.List.{append-nil}
use Rattle.paging.specs.declared.entry.Entry.{Entry}
use Rattle.run_trace.specs.declared.items.Item.{Item}
use Rattle.run_trace.specs.declared.items.End.{End}
use Rattle.run_trace.specs.declared.items.End.TheVariants.{Bound, Stopped}
use Rattle.machine_model.specs.State.{Setting, State, Loosened, IsCacheable, boot}
use Rattle.machine_model.specs.OnBare.{on_bare, end_on_bare, bound_on_bare}
use Rattle.machine_model.specs.Step.{Report, step_of}
use Rattle.machine_model.specs.Run.{Set, Steps, EndsIn, trace_of, with_set}
use Rattle.machine_model.specs.Agreement.{RunsAgree}
use Rattle.machine_model.specs.Joined.{StepsJoin}
use Rattle.machine_model.proofs.Runs.{trace_join}
use Rattle.checkpoint.specs.Legs.{Leg, in_mode, rested, Legs, Parts, sets_of, reports_of, LegsAreSteps, LegsAreARun, LegsAreParts, TracesJoin}

none-some : (e : Entry) → (let o : Option Entry = None in o) ≡ Some e → ⊥
none-some e is = absurd (cc)

-- nothing is kept of what is dropped
empty_allowed : (m : Setting) (b : State) → Loosened m b empty
empty_allowed m b = record { each = λ page e is. absurd (none-some e (sym (get-empty nat_cmp page) ∙ is)) }

-- what may be cached doesn't depend on what is
cacheable : (m : Setting) (b : State) (old new : Set) (page : ℕ) (e : Entry) → IsCacheable m (with_set b old) page e
    → IsCacheable m (with_set b new) page e
cacheable m b old new page e c = record {
  page_in = c.page_in;
  dir_at = c.dir_at;
  word_at = c.word_at;
  dirty = c.dirty;
  found = c.found;
  accessed = c.accessed;
  is_dirty = c.is_dirty;
}

through : (m : Setting) (b : State) (old new : Set) (page : ℕ) (e : Entry) → Loosened m (with_set b new) old
    → (get old page ≡ Some e) ⊎ IsCacheable m (with_set b old) page e → (get new page ≡ Some e) ⊎ IsCacheable m (with_set b new) page e
through m b old new page e l (inl is) = l.each page e is
through m b old new page e l (inr c) = inr (cacheable m b old new page e c)

loosened_through : (m : Setting) (b : State) (old new set : Set) → Loosened m (with_set b new) old → Loosened m (with_set b old) set
    → Loosened m (with_set b new) set
loosened_through m b old new set l h = record { each = λ page e is. through m b old new page e l (h.each page e is) }

same_step : (m : Setting) (b : State) (old new set : Set) → step_of m (with_set b new) set ≡ step_of m (with_set b old) set
unfolding step_of
same_step m b old new set = refl

-- steps from a state without translations are steps from the same state with some
from_any : (m : Setting) (b new : State) (whole set : Set) (sets : List Set) (reports : List Report)
    → Steps m (rested b) (set ∷ sets) reports new → Steps m (with_set b whole) (set ∷ sets) reports new
unfolding Steps
from_any m b new whole set sets reports h = (
  h.0,
  h.1,
  h.2,
  loosened_through m b empty whole set (empty_allowed m (with_set b whole)) h.3,
  same_step m b empty whole set ∙ h.4,
  h.5,
  h.6,
)

-- steps up to a state, but for its translations, and what it may go on with
record Reaches (m : Setting) (old : State) (sets : List Set) (reports : List Report) (new : State) : Type 0 where
  whole : Set
  steps : Steps m old sets reports (with_set new whole)
  loosened : Loosened m (with_set new whole) new.set

leg_on : StepsJoin → (m : Setting) (old now new : State) (whole : Set) (sets more : List Set) (reports later : List Report)
    → Steps m old sets reports (with_set now whole) → Steps m (rested now) more later new
    → Reaches m old (sets ++ more) (reports ++ later) new
unfolding Steps
leg_on join m old now new whole sets [] reports later steps h =
    let same : with_set new whole ≡ with_set now whole = ap (λ (b : State). with_set b whole) h.1 in
    let none : reports ++ later ≡ reports = ap (λ (r : List Report). reports ++ r) h.0 ∙ append-nil reports in
    record {
      whole = whole;
      steps =
          subst (λ (b : State). Steps m old (sets ++ []) (reports ++ later) b) (sym same)
          (subst (λ (r : List Report). Steps m old (sets ++ []) r (with_set now whole)) (sym none)
          (subst (λ (s : List Set). Steps m old s reports (with_set now whole)) (sym (append-nil sets)) steps));
      loosened = subst (λ (x : Set). Loosened m (with_set new whole) x) (sym (ap (λ (b : State). b.set) h.1))
          (empty_allowed m (with_set new whole));
    }
leg_on join m old now new whole sets (set ∷ more) reports later steps h = record {
  whole = new.set;
  steps = join m old (with_set now whole) new sets (set ∷ more) reports later steps (from_any m now new whole set more later h);
  loosened = record { each = λ page e is. inl is };
}

-- on the bare machine
as_bare : RunsAgree → (m : Setting) (leg : Leg) (old new : State) → Steps (in_mode m leg.mode) old leg.sets leg.reports new
    → Steps (on_bare m) old leg.sets leg.reports new
as_bare agree m leg old new h =
    (agree (in_mode m leg.mode) new.step old leg.sets leg.reports new Bound (record { steps = h; ends = refl })).steps

legs_from : StepsJoin → RunsAgree → (m : Setting) (old now new : State) (whole : Set) (sets : List Set)
    (reports : List Report) (legs : List Leg)
    → Steps (on_bare m) old sets reports (with_set now whole) → Legs m now legs new
    → (left_then : Set) × Steps (on_bare m) old (sets ++ sets_of legs) (reports ++ reports_of legs) (with_set new left_then)
unfolding Legs
legs_from join agree m old now new whole sets reports [] steps h = (
  whole,
  subst (λ (b : State). Steps (on_bare m) old (sets ++ []) (reports ++ []) (with_set b whole)) (sym h)
      (subst (λ (r : List Report). Steps (on_bare m) old (sets ++ []) r (with_set now whole)) (sym (append-nil reports))
      (subst (λ (s : List Set). Steps (on_bare m) old s reports (with_set now whole)) (sym (append-nil sets)) steps)),
)
legs_from join agree m old now new whole sets reports (leg ∷ legs) steps h =
    let reached =
    leg_on join (on_bare m) old now h.0 whole sets leg.sets reports leg.reports steps (as_bare agree m leg (rested now) h.0 h.1) in
    let rest = legs_from join agree m old h.0 new reached.whole (sets ++ leg.sets) (reports ++ leg.reports) legs reached.steps h.2 in (
      rest.0,
      subst (λ (r : List Report). Steps (on_bare m) old (sets ++ (leg.sets ++ sets_of legs)) r (with_set new rest.0))
          (append_assoc reports leg.reports (reports_of legs))
          (subst (λ (s : List Set). Steps (on_bare m) old s (reports ++ leg.reports ++ reports_of legs) (with_set new rest.0))
          (append_assoc sets leg.sets (sets_of legs)) rest.1),
    )

no_steps : (m : Setting) (b : State) → Steps m b [] [] (with_set b b.set)
unfolding Steps
no_steps m b = (refl, refl)

pub legs_are_steps : StepsJoin → RunsAgree → LegsAreSteps
legs_are_steps join agree m old new legs h = legs_from join agree m old old new old.set [] [] legs (no_steps (on_bare m) old) h

ends_on : (m : Setting) (n : ℕ) (last : State) (whole : Set) (end : End) → Loosened m (with_set last whole) last.set → EndsIn m n last end
    → EndsIn m n (with_set last whole) end
ends_on m n last whole Bound l h = h
ends_on m n last whole (Stopped stop) l h = (
  h.0,
  record {
    set = h.1.set;
    allowed = loosened_through m last last.set whole h.1.set l h.1.allowed;
    halts = same_step m last last.set whole h.1.set ∙ h.1.halts;
  },
)

pub legs_are_a_run : StepsJoin → RunsAgree → LegsAreARun
legs_are_a_run join agree m n legs leg mid last end before h =
    let done = legs_are_steps join agree m (boot m) mid legs before in
    let bare = agree (in_mode m leg.mode) n (rested mid) leg.sets leg.reports last end h in
    let reached =
    leg_on join (on_bare m) (boot m) mid last done.0 (sets_of legs) leg.sets (reports_of legs) leg.reports done.1 bare.steps in (
      reached.whole,
      record {
        steps = reached.steps;
        ends = ends_on (on_bare m) (bound_on_bare n last end) last reached.whole (end_on_bare end) reached.loosened bare.ends;
      },
    )

-- a part goes on with what the one before it has left
part_on : (m : Setting) (now new : State) (whole : Set) (sets : List Set) (reports : List Report) → Steps m (rested now) sets reports new
    → Reaches m (with_set now whole) sets reports new
unfolding Steps
part_on m now new whole [] reports h = record {
  whole = whole;
  steps = (h.0, ap (λ (b : State). with_set b whole) h.1);
  loosened =
      subst (λ (x : Set). Loosened m (with_set new whole) x) (sym (ap (λ (b : State). b.set) h.1)) (empty_allowed m (with_set new whole));
}
part_on m now new whole (set ∷ more) reports h = record {
  whole = new.set;
  steps = from_any m now new whole set more reports h;
  loosened = record { each = λ page e is. inl is };
}

parts_from : (m : Setting) (now new : State) (whole : Set) (legs : List Leg) → Legs m now legs new → (left_then : Set)
    × Parts m (with_set now whole) legs (with_set new left_then)
unfolding Legs Parts
parts_from m now new whole [] h = (whole, ap (λ (b : State). with_set b whole) h)
parts_from m now new whole (leg ∷ legs) h =
    let p = part_on (in_mode m leg.mode) now h.0 whole leg.sets leg.reports h.1 in
    let rest = parts_from m h.0 new p.whole legs h.2 in (rest.0, (with_set h.0 p.whole, p.steps, rest.1))

-- one part more
parts_more : (m : Setting) (old mid new : State) (legs : List Leg) (leg : Leg) → Parts m old legs mid
    → Steps (in_mode m leg.mode) mid leg.sets leg.reports new → Parts m old (legs ++ leg ∷ []) new
unfolding Parts
parts_more m old mid new [] leg h steps = (new, subst (λ (b : State). Steps (in_mode m leg.mode) b leg.sets leg.reports new) h steps, refl)
parts_more m old mid new (l ∷ legs) leg h steps = (h.0, h.1, parts_more m h.0 mid new legs leg h.2 steps)

pub legs_are_parts : LegsAreParts
legs_are_parts m n legs leg mid last end before h =
    let p = parts_from m (boot m) mid (boot m).set legs before in
    let q = part_on (in_mode m leg.mode) mid last p.0 leg.sets leg.reports h.steps in (
      q.whole,
      parts_more m (boot m) (with_set mid p.0) (with_set last q.whole) legs leg p.1 q.steps,
      ends_on (in_mode m leg.mode) n last q.whole end q.loosened h.ends,
    )

traces_of_legs : (legs : List Leg) → trace_of (reports_of legs) ≡ flat_map (λ (l : Leg). trace_of l.reports) legs
traces_of_legs [] = refl
traces_of_legs (leg ∷ legs) =
    trace_join leg.reports (reports_of legs) ∙ ap (λ (xs : List Item). trace_of leg.reports ++ xs) (traces_of_legs legs)

pub traces_join : TracesJoin
traces_join legs leg = trace_join (reports_of legs) leg.reports ∙ ap (λ (xs : List Item). xs ++ trace_of leg.reports) (traces_of_legs legs)
