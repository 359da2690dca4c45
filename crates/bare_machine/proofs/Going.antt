-- A slice on its way.
use Rattle.std.proofs.Common.{◌≡◌, ℕ, Bool, true, List, [], ◌∷◌, ◌++◌, Option, refl, sym, ap, subst, ◌∙◌}
use Rattle.std.proofs.lemmas.List.{append-nil}
use Rattle.pv_io.specs.Sink.{Appends, AppendsFront}
use Rattle.run_trace.specs.declared.items.Item.{Item}
use Rattle.run_trace.specs.declared.items.What.{What}
use Rattle.run_trace.specs.Text.{lines_of}
use Rattle.paging.specs.Part.{IsPartOf}
use Rattle.machine_model.specs.State.{Setting, State}
use Rattle.machine_model.specs.Step.{Report, Went, step_of, items_at}
use Rattle.machine_model.specs.Run.{Set, Steps, trace_of, with_set}
pub use Rattle.machine_model.proofs.Texts.{lines_join}
use Rattle.bare_machine.specs.Machine.{translations_of, Goes, GoesOn, Rests, Passes, StepsBy, FirstIs}
use Rattle.bare_machine.specs.declared.machine.BareMachine as machines
use Rattle.bare_machine.proofs.Runs.{part_allowed, part_same, same_step, no_steps, steps_on, steps_join, by_none, by_on, by_join, trace_on, trace_join}
use Rattle.pv_io.proofs.Pieces.{appends_both, front_of, appends_none}

-- some steps were done, the next one uses what is cached, and the lines were put
pub record Going (s : Setting) (exact : Bool) (old now : State) (told tells : Option (List ℕ)) : Type 0 where
  pub sets : List Set
  pub reports : List Report
  pub whole : Set
  pub steps : Steps s old sets reports (with_set now whole)
  pub part : IsPartOf now.set whole
  pub first : FirstIs old.set (sets ++ now.set ∷ [])
  pub exactly : exact ≡ true → StepsBy s translations_of old reports now
  pub text : Appends told tells (lines_of (trace_of reports))

pub going_none : (s : Setting) (exact : Bool) (b : State) (told : Option (List ℕ)) → Going s exact b b told told
going_none s exact b told = record {
  sets = [];
  reports = [];
  whole = b.set;
  steps = no_steps s b;
  part = part_same b.set;
  first = refl;
  exactly = λ _. by_none s translations_of b;
  text = appends_none told;
}

first_on : (set : Set) (sets : List Set) (x : Set) (more : List Set) → FirstIs set (sets ++ x ∷ []) → FirstIs set ((sets ++ x ∷ []) ++ more)
first_on set [] x more h = h
first_on set (y ∷ sets) x more h = h

first_more : (set : Set) (sets : List Set) (x : Set) (more last : List Set) → FirstIs set (sets ++ x ∷ [])
    → FirstIs set (((sets ++ x ∷ []) ++ more) ++ last)
first_more set [] x more last h = h
first_more set (y ∷ sets) x more last h = h

-- the steps so far
pub passes_here : (s : Setting) (exact : Bool) (old now : State) (told tells : Option (List ℕ)) → (g : Going s exact old now told tells)
    → Passes s exact old g.reports now
passes_here s exact old now told tells g = record {
  sets = g.sets;
  whole = g.whole;
  steps = g.steps;
  part = g.part;
  first = g.first;
  exactly = g.exactly;
}

kept_all : (s : Setting) (exact : Bool) (m mid : State) (whats : List What) → (r : Goes (step_of s m m.set) m.step whats exact mid)
    → exact ≡ true → step_of s m (translations_of m) ≡ Went r.report mid
kept_all s exact m mid whats r e = r.went ∙ ap (λ (set : Set). Went r.report (with_set mid set)) (sym (r.all e))

-- one step more
pub passes_on : (s : Setting) (exact : Bool) (old m mid : State) (whats : List What) (told tells : Option (List ℕ))
    → (g : Going s exact old m told tells)
    → (r : Goes (step_of s m m.set) m.step whats exact mid) → Passes s exact old (g.reports ++ r.report ∷ []) mid
passes_on s exact old m mid whats told tells g r = record {
  sets = g.sets ++ m.set ∷ [];
  whole = r.whole;
  steps = steps_on s old (with_set m g.whole) (with_set mid r.whole) g.sets m.set g.reports r.report g.steps
      (part_allowed s m g.whole m.set g.part) (same_step s m g.whole m.set ∙ r.went);
  part = r.part;
  first = first_on old.set g.sets m.set (mid.set ∷ []) g.first;
  exactly = λ e. by_on s translations_of old m mid g.reports r.report (g.exactly e) (kept_all s exact m mid whats r e);
}

-- its lines
pub lines_on : (reports : List Report) (now : Report) (items : List Item) → now.items ≡ items
    → lines_of (trace_of (reports ++ now ∷ [])) ≡ lines_of (trace_of reports) ++ lines_of items
lines_on reports now items is =
    ap lines_of (trace_on reports now)
    ∙ (lines_join (trace_of reports) now.items ∙ ap (λ (l : List Item). lines_of (trace_of reports) ++ lines_of l) is)

pub silent_join : (reports later : List Report) → trace_of later ≡ [] → trace_of (reports ++ later) ≡ trace_of reports
silent_join reports later silent =
    trace_join reports later ∙ (ap (λ (l : List Item). trace_of reports ++ l) silent ∙ append-nil (trace_of reports))

-- the step's lines were put, or a front of them
pub front_on : (s : Setting) (exact : Bool) (old m mid : State) (whats : List What) (told tells last : Option (List ℕ))
    → (g : Going s exact old m told tells)
    → (r : Goes (step_of s m m.set) m.step whats exact mid) → AppendsFront tells last (lines_of (items_at m.step whats))
    → AppendsFront told last (lines_of (trace_of (g.reports ++ r.report ∷ [])))
front_on s exact old m mid whats told tells last g r put =
    let is = lines_on g.reports r.report (items_at m.step whats) r.items in
    front_of told tells last (lines_of (trace_of g.reports)) (lines_of (items_at m.step whats)) [] _ g.text put
    (is ∙ ap (λ (l : List ℕ). lines_of (trace_of g.reports) ++ l) (sym (append-nil (lines_of (items_at m.step whats)))))

-- one step more, and steps in which nothing is seen
pub going_on : (s : Setting) (exact : Bool) (old m mid new : State) (whats : List What) (told tells last : Option (List ℕ))
    → (g : Going s exact old m told tells)
    → (r : Goes (step_of s m m.set) m.step whats exact mid) → Appends tells last (lines_of (items_at m.step whats))
    → Rests s mid r.whole new → Going s exact old new told last
unfolding passes_on
going_on s exact old m mid new whats told tells last g r put rest =
    let p = passes_on s exact old m mid whats told tells g r in
    let is = ap lines_of (silent_join (g.reports ++ r.report ∷ []) rest.reports rest.silent)
    ∙ lines_on g.reports r.report (items_at m.step whats) r.items in
    record {
      sets = (g.sets ++ m.set ∷ []) ++ rest.sets;
      reports = (g.reports ++ r.report ∷ []) ++ rest.reports;
      whole = rest.left_then;
      steps = steps_join s old (with_set mid r.whole) (with_set new rest.left_then) p.sets rest.sets (g.reports ++ r.report ∷ [])
          rest.reports p.steps rest.steps;
      part = rest.part;
      first = first_more old.set g.sets m.set rest.sets (new.set ∷ []) g.first;
      exactly = λ e. by_join s translations_of old mid new (g.reports ++ r.report ∷ []) rest.reports (p.exactly e) rest.exactly;
      text = subst (λ (l : List ℕ). Appends told last l) (sym is) (appends_both told tells last _ _ g.text put);
    }

-- a machine that can go on twice
pub goes_further : {C : Type 0} {entries : C → Set} {exact : C → Bool} (a b c : machines.BareMachine C) → GoesOn entries exact a b
    → GoesOn entries exact b c → GoesOn entries exact a c
goes_further a b c h k = record { kept = k.kept; frames = k.frames ∙ h.frames; size = k.size ∙ h.size; exact = k.exact ∙ h.exact }
