-- Runs, one after the other, and the steps that they take.
use Rattle.std.proofs.Common.{◌≡◌, ℕ, ◌+◌, ◌*◌, ◌%◌, ◌^◌, List, [], ◌∷◌, ◌++◌, length, map, refl, sym, ap, subst, ◌∙◌, append_assoc, length-append}
use Rattle.std.proofs.lemmas.Grind.{flat_map-append}
use Rattle.sites.specs.declared.site.Site.{Site}
use Rattle.run_trace.specs.declared.items.Item.{Item}
use Rattle.machine_model.specs.State.{Setting, State, Loosened}
use Rattle.machine_model.specs.Step.{Report, Result, Went, step_of}
use Rattle.machine_model.specs.Run.{Set, Steps, trace_of}
use Rattle.machine_model.specs.Counts.{direct_in, direct_addresses, passed_on}
use Rattle.machine_model.specs.Taken.{Taken, behind, steps_by}
use Rattle.machine_model.specs.Keeping.{Roomy, IsKept, Kept}
use Rattle.machine_model.specs.Joined.{StepsJoin, TakenJoin, CountsJoin, DigestsJoin, StepsAreTaken, KeptOn, KeptBefore}
use Rattle.machine_model.proofs.Splits.{Split, At_end, Within, split_of}

pub steps_join : StepsJoin
unfolding Steps
steps_join m old mid new [] more reports later first rest =
    subst (λ (l : List Report). Steps m old more (l ++ later) new) (sym first.0)
    (subst (λ (b : State). Steps m b more later new) first.1 rest)
steps_join m old mid new (set ∷ sets) more reports later first rest = (
  first.0,
  first.1,
  first.2 ++ later,
  first.3,
  first.4,
  steps_join m first.0 mid new sets more first.2 later first.5 rest,
  ap (λ (l : List Report). l ++ later) first.6,
)

-- no step yet
pub no_steps : (m : Setting) (b : State) → Steps m b [] [] b
unfolding Steps
no_steps m b = (refl, refl)

-- one step
pub steps_one : (m : Setting) (old new : State) (set : Set) (now : Report) → Loosened m old set → step_of m old set ≡ Went now new
    → Steps m old (set ∷ []) (now ∷ []) new
unfolding Steps
steps_one m old new set now allowed is = (new, now, [], allowed, is, (refl, refl), refl)

-- a step leads to one state
pub went_there : (a b : Report) (x y : State) → Went a x ≡ Went b y → x ≡ y
went_there a b x y is = cc

-- what was seen in two runs
pub trace_join : (reports later : List Report) → trace_of (reports ++ later) ≡ trace_of reports ++ trace_of later
trace_join [] later = refl
trace_join (r ∷ reports) later =
    ap (λ (l : List Item). r.items ++ l) (trace_join reports later) ∙ sym (append_assoc r.items (trace_of reports) (trace_of later))

pub addresses_join : (sites : List Site) (reports later : List Report) → direct_addresses sites (reports ++ later) ≡ direct_addresses sites
    reports ++ direct_addresses sites later
addresses_join sites reports later = flat_map-append (λ (r : Report). direct_in sites r.completed) reports later

pub counts_join : CountsJoin
counts_join sites reports later =
    ap (λ (l : List ℕ). length l) (addresses_join sites reports later)
    ∙ length-append (direct_addresses sites reports) (direct_addresses sites later)

pub passed_join : (p : ℕ) (front back : List ℕ) → passed_on p (front ++ back) ≡ passed_on (passed_on p front) back
passed_join p [] back = refl
passed_join p (eip ∷ front) back = passed_join ((31 * p + eip) % 2 ^ 64) front back

pub digests_join : DigestsJoin
digests_join sites p reports later =
    ap (passed_on p) (addresses_join sites reports later) ∙ passed_join p (direct_addresses sites reports) (direct_addresses sites later)

-- one step, and those after it
pub taken_first : (m : Setting) (b after : State) (set : Set) (sets : List Set) (report : Report) → step_of m b set ≡ Went report after
    → steps_by m b (set ∷ sets) ≡ record { before = b; set = set; report = report; after = after } ∷ steps_by m after sets
taken_first m b after set sets report is = ap (λ (r : Result). behind b set r (λ a. steps_by m a sets)) is

pub steps_are_taken : StepsAreTaken
unfolding Steps
steps_are_taken m old new [] reports steps = record { sets_are = refl; reports_are = sym steps.0 }
steps_are_taken m old new (set ∷ sets) reports steps =
    let first = taken_first m old steps.0 set sets steps.1 steps.4 in
    let rest = steps_are_taken m steps.0 new sets steps.2 steps.5 in
    record {
      sets_are = ap (map (λ (t : Taken). t.set)) first ∙ ap (λ (l : List Set). set ∷ l) rest.sets_are;
      reports_are = ap (map (λ (t : Taken). t.report)) first ∙ (ap (λ (l : List Report). steps.1 ∷ l) rest.reports_are ∙ sym steps.6);
    }

pub taken_join : TakenJoin
unfolding Steps
taken_join m old mid [] more reports steps = ap (λ (b : State). steps_by m b more) (sym steps.1)
taken_join m old mid (set ∷ sets) more reports steps =
    let now : Taken = record { before = old; set = set; report = steps.1; after = steps.0 } in
    taken_first m old steps.0 set (sets ++ more) steps.1 steps.4
    ∙ (ap (λ (l : List Taken). now ∷ l) (taken_join m steps.0 mid sets more steps.2 steps.5)
    ∙ ap (λ (l : List Taken). l ++ steps_by m mid more) (sym (taken_first m old steps.0 set sets steps.1 steps.4)))

-- some steps lead to one state
pub ends_there : (m : Setting) (old a b : State) (sets : List Set) (x y : List Report) → Steps m old sets x a → Steps m old sets y b → a ≡ b
unfolding Steps
ends_there m old a b [] x y s t = s.1 ∙ sym t.1
ends_there m old a b (set ∷ sets) x y s t =
    let same : s.0 ≡ t.0 = went_there s.1 t.1 s.0 t.0 (sym s.4 ∙ t.4) in
    ends_there m t.0 a b sets s.2 t.2 (subst (λ (z : State). Steps m z sets s.2 a) same s.5) t.5

kept_by : (m : Setting) (old mid : State) (sets : List Set) (set : Set) (reports : List Report)
    → Steps m old sets reports mid → Kept m old sets
    → (Roomy (steps_by m old sets) → IsKept m (steps_by m old sets) mid set)
    → (front : List Set) (x : Set) (back : List Set) (seen : List Report) (now : State) → Split sets set front x back
    → Steps m old front seen now
    → Roomy (steps_by m old front) → IsKept m (steps_by m old front) now x
kept_by m old mid sets set reports steps kept last front x back seen now (At_end same is none) there roomy =
    let state : mid ≡ now =
    ends_there m old mid now sets reports seen steps (subst (λ (l : List Set). Steps m old l seen now) same there) in
    subst (λ (l : List Set). IsKept m (steps_by m old l) now x) (sym same)
    (subst (λ (b : State). IsKept m (steps_by m old sets) b x) state
    (subst (λ (s : Set). IsKept m (steps_by m old sets) mid s) (sym is)
    (last (subst (λ (l : List Set). Roomy (steps_by m old l)) same roomy))))
kept_by m old mid sets set reports steps kept last front x back seen now (Within c same rest) there roomy =
    kept.each front x c seen now same there roomy

pub kept_on : KeptOn
kept_on m old mid sets set reports steps kept last =
    record {
      each = λ front x back seen now e there roomy. kept_by m old mid sets set reports steps kept last front x back seen now
          (split_of sets set front x back e) there roomy;
    }

pub kept_before : KeptBefore
kept_before m old sets more kept =
    record {
      each = λ front x back seen now e there roomy.
          kept.each front x (back ++ more) seen now (ap (λ (l : List Set). l ++ more) e ∙ append_assoc front (x ∷ back) more) there roomy;
    }
