-- A run that is looked at before some of its steps, a state at a time.
use Rattle.std.proofs.Common.{◌≡◌, ℕ, ◌+◌, ◌-◌, ◌<◌, ◌≤◌, true, false, List, [], ◌∷◌, ◌++◌, sym, ap, subst, ◌∙◌, append_assoc, arith, Ok, Err, drop, get_or, length, drop-cons, add-one}
use Rattle.std.specs.Prelude.{Any, Option, Result, IsErr, slice_index_or}
use Rattle.std.proofs.lemmas.List.{append-nil}
use Rattle.std.proofs.lemmas.Grind.{get_or_default_zero}
use Rattle.std.proofs.Math.Seq.{drop-length}
use Rattle.ia32_types.specs.declared.stop.Stop.{Stop}
use Rattle.run_trace.specs.declared.pause.Pause.{Pause}
use Rattle.run_trace.specs.declared.pause.Pause.TheVariants as pause
use Rattle.machine_model.specs.State.{Setting, State}
use Rattle.machine_model.specs.Step.{Report, Halts, step_of}
use Rattle.bare_mem.specs.Keeping.{Keeps}
use Rattle.bare_machine.specs.Buffered.{KeptSteps, KeptSlice}
use Rattle.bare_machine.proofs.Buffering.{kept_none, never_back}
use Rattle.pv_look.specs.Moments.{moment_text}
use Rattle.pv_look.specs.Onward.{Watch, Shows, Ends, Goes, StopsAt, up_to, MomentAs, MomentsAs}

never : false ≡ true → ⊥
never is = cc

-- steps and those after them
pub join_steps : (keeping : Keeps) (s : Setting) (old mid new : State) (reports later : List Report)
    → KeptSteps keeping s old reports mid → KeptSteps keeping s mid later new → KeptSteps keeping s old (reports ++ later) new
unfolding KeptSteps
join_steps keeping s old mid new [] later first rest = subst (λ (b : State). KeptSteps keeping s b later new) first rest
join_steps keeping s old mid new (r ∷ reports) later first rest =
    (first.0, first.1, join_steps keeping s first.0 mid new reports later first.2 rest)

-- ---- one state

pub moment_reached : (w : Watch) (bound n : ℕ) (old new : State) (told tells : List ℕ) (a b : Option (List ℕ))
    → KeptSlice w.keeping w.setting bound old new a b (Ok pause.Reached) → bound ≡ old.step + (n - old.step)
    → tells ≡ told ++ moment_text w.of w.setting.frames new
    → (reports : List Report) × KeptSteps w.keeping w.setting old reports new × (new.step ≡ old.step + (n - old.step)) ×
    (tells ≡ told ++ moment_text w.of w.setting.frames new)
moment_reached w bound n old new told tells a b slice is text = (
  slice.reports,
  subst (λ (x : State). KeptSteps w.keeping w.setting old slice.reports x) (sym slice.ends.1) slice.steps,
  ap (λ (x : State). x.step) slice.ends.1 ∙ slice.ends.0 ∙ is,
  text,
)

pub moment_stops : (w : Watch) (bound n : ℕ) (old new : State) (stop : Stop) (a b : Option (List ℕ))
    → KeptSlice w.keeping w.setting bound old new a b (Ok (pause.Stopped stop)) → bound ≡ old.step + (n - old.step)
    → (reports : List Report) × (last : State) × KeptSteps w.keeping w.setting old reports last × (last.step ≡ new.step) × (last.step < n) ×
    (step_of w.setting last last.set ≡ Halts stop)
moment_stops w bound n old new stop a b slice is =
    let least = never_back w.keeping w.setting old slice.last slice.reports slice.steps in
    let below = slice.ends.0 in
    (slice.reports, slice.last, slice.steps, sym slice.ends.1, omega (arith, least, below, is), slice.ends.2)

pub failed_moment : {E : Type 0} (w : Watch) (n : ℕ) (old new : State) (told tells : List ℕ) (r : Result Pause E)
    → IsErr r → MomentAs {E = E} w n old new told tells r
failed_moment w n old new told tells (Ok it) e = absurd (never e)
failed_moment w n old new told tells (Err failed) e = tt

-- the next state was reached
abbrev pub IsReached : Watch → ℕ → State → State → List ℕ → List ℕ → Type 0
IsReached w n old new told tells = MomentAs {E = Unit {0}} w n old new told tells (Ok pause.Reached)

-- a step stops before it
abbrev pub IsStopped : Watch → ℕ → State → State → List ℕ → List ℕ → Stop → Type 0
IsStopped w n old new told tells stop = MomentAs {E = Unit {0}} w n old new told tells (Ok (pause.Stopped stop))

-- ---- several

-- the first of what is left
pub next_one : (all : List ℕ) (i : ℕ) → i < length all → drop i all ≡ get_or all i 0 ∷ drop (i + 1) all
next_one all i inside = rw add-one (drop-cons all i 0 inside)

none_left : (all : List ℕ) (i : ℕ) → i ≡ length all → drop i all ≡ []
none_left all i is = subst (λ (k : ℕ). drop k all ≡ []) (sym is) (drop-length all)

pub at_end : (all : List ℕ) (i : ℕ) → i ≤ length all → length all ≤ i → drop i all ≡ []
at_end all i upper lower = none_left all i (omega (arith, upper, lower))

-- What holds between two of them: these steps have led to the state now, the text of the states so far was added, and whoever
-- shows what is left shows all.
pub record SoFar (w : Watch) (bound : ℕ) (all left : List ℕ) (old now : State) (told text : List ℕ) : Type 0 where
  pub reports : List Report
  pub front : List ℕ
  pub leads : KeptSteps w.keeping w.setting old reports now
  pub text_is : text ≡ told ++ front
  pub on : (later : List Report) (rest : List ℕ) (last : State) → Shows w now (up_to bound left) later rest last
      → Shows w old (up_to bound all) (reports ++ later) (front ++ rest) last

pub so_far_start : (w : Watch) (bound : ℕ) (all : List ℕ) (old : State) (told : List ℕ)
    → SoFar w bound all all old old told told
so_far_start w bound all old told = record {
  reports = [];
  front = [];
  leads = kept_none w.keeping w.setting old;
  text_is = sym (append-nil told);
  on = λ later rest last h. h;
}

pub below_bound : (bound n : ℕ) (ns : List ℕ) → n < bound → up_to bound (n ∷ ns) ≡ n ∷ up_to bound ns
below_bound bound n ns lt = grind (arith, lt)

at_bound : (bound n : ℕ) (ns : List ℕ) → bound ≤ n → up_to bound (n ∷ ns) ≡ bound ∷ []
at_bound bound n ns le = grind (arith, le)

-- more text behind what was added
longer : (tells text told front more : List ℕ) → tells ≡ text ++ more → text ≡ told ++ front → tells ≡ told ++ (front ++ more)
longer tells text told front more is was = is ∙ ap (λ (x : List ℕ). x ++ more) was ∙ append_assoc told front more

pub so_far_next : (w : Watch) (bound : ℕ) (all left : List ℕ) (n : ℕ) (ns : List ℕ) (old now mid : State)
    (told text tells : List ℕ)
    → SoFar w bound all left old now told text → left ≡ n ∷ ns → n < bound
    → (reports : List Report) × KeptSteps w.keeping w.setting now reports mid × (mid.step ≡ now.step + (n - now.step)) ×
    (tells ≡ text ++ moment_text w.of w.setting.frames mid)
    → SoFar w bound all ns old mid told tells
so_far_next w bound all left n ns old now mid told text tells x is lt h =
    let shown = moment_text w.of w.setting.frames mid in
    record {
      reports = x.reports ++ h.0;
      front = x.front ++ shown;
      leads = join_steps w.keeping w.setting old now mid x.reports h.0 x.leads h.1;
      text_is = longer tells text told x.front shown h.3 x.text_is;
      on = λ later rest last more.
          let goes = Goes now mid last n (up_to bound ns) h.0 later rest h.1 h.2 more in
          let left_is = ap (λ (l : List ℕ). up_to bound l) is ∙ below_bound bound n ns lt in
          let all_of = x.on (h.0 ++ later) (shown ++ rest) last
          (subst (λ (l : List ℕ). Shows w now l (h.0 ++ later) (shown ++ rest) last) (sym left_is) goes) in
          subst (λ (r : List Report). Shows w old (up_to bound all) r ((x.front ++ shown) ++ rest) last)
          (sym (append_assoc x.reports h.0 later))
          (subst (λ (t : List ℕ). Shows w old (up_to bound all) (x.reports ++ (h.0 ++ later)) t last)
          (sym (append_assoc x.front shown rest)) all_of);
    }

-- all were reached
pub so_far_done : (w : Watch) (bound : ℕ) (all left : List ℕ) (old now : State) (told text : List ℕ)
    → SoFar w bound all left old now told text → left ≡ []
    → (reports : List Report) × (more : List ℕ) × Shows w old (up_to bound all) reports more now × (text ≡ told ++ more)
so_far_done w bound all left old now told text x is = (
  x.reports ++ [],
  x.front ++ [],
  x.on [] [] now (subst (λ (l : List ℕ). Shows w now l [] [] now) (sym (ap (λ (l : List ℕ). up_to bound l) is)) (Ends now)),
  x.text_is ∙ ap (λ (f : List ℕ). told ++ f) (sym (append-nil x.front)),
)

-- the bound was reached
pub so_far_bound : (w : Watch) (bound : ℕ) (all left : List ℕ) (n : ℕ) (ns : List ℕ) (old now new : State)
    (told text tells : List ℕ)
    → SoFar w bound all left old now told text → left ≡ n ∷ ns → bound ≤ n
    → (reports : List Report) × KeptSteps w.keeping w.setting now reports new × (new.step ≡ now.step + (bound - now.step)) ×
    (tells ≡ text ++ moment_text w.of w.setting.frames new)
    → (reports : List Report) × (more : List ℕ) × Shows w old (up_to bound all) reports more new × (tells ≡ told ++ more)
so_far_bound w bound all left n ns old now new told text tells x is le h =
    let shown = moment_text w.of w.setting.frames new in
    let left_is = ap (λ (l : List ℕ). up_to bound l) is ∙ at_bound bound n ns le in
    let goes = Goes now new new bound [] h.0 [] [] h.1 h.2 (Ends new) in (
      x.reports ++ (h.0 ++ []),
      x.front ++ (shown ++ []),
      x.on (h.0 ++ []) (shown ++ []) new (subst (λ (l : List ℕ). Shows w now l (h.0 ++ []) (shown ++ []) new) (sym left_is) goes),
      longer tells text told x.front (shown ++ []) (h.3 ∙ ap (λ (m : List ℕ). text ++ m) (sym (append-nil shown))) x.text_is,
    )

-- a step stops before the next
pub so_far_stop : (w : Watch) (bound : ℕ) (all left : List ℕ) (old now new : State) (told text : List ℕ) (stop : Stop)
    (k n to : ℕ)
    → SoFar w bound all left old now told text → to ≤ bound → to ≤ n → k < length all → slice_index_or all k n ≡ n
    → (reports : List Report) × (last : State) × KeptSteps w.keeping w.setting now reports last × (last.step ≡ new.step)
    × (last.step < to) ×
    (step_of w.setting last last.set ≡ Halts stop)
    → (new.step < bound) × Any (λ (m : ℕ). new.step < m) all × StopsAt w old new.step stop
so_far_stop w bound all left old now new told text stop k n to x within up inside is h =
    let same = h.3 in
    let below = h.4 in (
      omega (arith, same, below, within),
      (k, n, inside, is, omega (arith, same, below, up)),
      record {
        reports = x.reports ++ h.0;
        last = h.1;
        leads = join_steps w.keeping w.setting old now h.1 x.reports h.0 x.leads h.2;
        count_is =
            h.3;
        halts = h.5;
      },
    )

-- where the bound takes the next one's place
pub so_far_any : {E : Type 0} (w : Watch) (bound : ℕ) (all : List ℕ) (i : ℕ) (old now new : State)
    (told text tells : List ℕ) (r : Result Pause E)
    → SoFar w bound all (drop i all) old now told text → i < length all → bound ≤ get_or all i 0
    → MomentAs {E = E} w bound now new text tells r → MomentsAs {E = E} w bound all old new told tells r
so_far_any w bound all i old now new told text tells (Ok pause.Reached) x inside le h =
    so_far_bound w bound all (drop i all) (get_or all i 0) (drop (i + 1) all) old now new told text tells x (next_one all i inside)
    le h
so_far_any w bound all i old now new told text tells (Ok (pause.Stopped stop)) x inside le h =
    so_far_stop w bound all (drop i all) old now new told text stop i (get_or all i 0) bound x (omega arith) le inside
    (get_or_default_zero all i (get_or all i 0) inside) h
so_far_any w bound all i old now new told text tells (Err failed) x inside le h = tt
