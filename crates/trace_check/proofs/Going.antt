-- The course of choices, from slice to slice.
use Rattle.std.proofs.Common.{◌≡◌, ℕ, suc, ◌+◌, ◌-◌, ◌<◌, ◌≤◌, Bool, true, List, [], ◌∷◌, ◌++◌, length, take, drop, Option, Some, None, Result, Ok, Err, refl, sym, ap, subst, ◌∙◌, arith, append_assoc}
use Rattle.std.specs.Prelude.{slice_get}
use Rattle.std.proofs.lemmas.List.{append-nil}
use Rattle.pv_io.specs.Sink.{Appends}
use Rattle.pv_io.specs.declared.answer.Failed.{Failed}
use Rattle.pv_io.proofs.Pieces.{appends_both, front_of, appends_none}
use Rattle.ia32_types.specs.declared.stop.Stop.{Stop}
use Rattle.board.specs.Scripts.{Events}
use Rattle.image_check.specs.Image.{Image}
use Rattle.run_trace.specs.declared.items.End.TheVariants.{Bound, Stopped}
use Rattle.run_trace.specs.declared.pause.Pause.{Pause}
use Rattle.run_trace.specs.declared.pause.Pause.TheVariants as pause
use Rattle.run_trace.specs.Text.{lines_of}
use Rattle.machine_model.specs.State.{Setting, State}
use Rattle.machine_model.specs.Step as steps
use Rattle.machine_model.specs.Step.{Report, Went, Halts, step_of}
use Rattle.machine_model.specs.Run.{Set, with_set, trace_of}
use Rattle.machine_model.proofs.Counted.{counted_by}
use Rattle.machine_model.proofs.Texts.{reported}
use Rattle.bare_machine.specs.Machine.{StepsBy, translations_of}
use Rattle.bare_machine.specs.Settings.{bare}
use Rattle.bare_machine.specs.Slices.{SliceAs}
use Rattle.bare_machine.proofs.Runs.{same_step}
use Rattle.trace_check.specs.declared.list.Choice.{Choice}
use Rattle.trace_check.specs.declared.answer.CourseEnd.{CourseEnd}
use Rattle.trace_check.specs.declared.answer.CourseEnd.TheVariants.{Ended, BadAt}
use Rattle.trace_check.specs.Form.{AreFrom, AreChoices}
use Rattle.trace_check.specs.Courses.{Course, chosen, after_step, after_choices, course}
use Rattle.trace_check.specs.Follows.{Splits, MadeAs, next_of, next_step, FollowsAs}
use Rattle.trace_check.proofs.Choosing.{untouched, below_later, next_is, none_left}

-- a course with reports before it
abbrev pub behind : List Report → Course → Course
behind reports c = record c { reports = reports ++ c.reports }

-- the course up to a count of steps, and the same where the choices of the first step were made
abbrev pub up_to : Setting → List Choice → ℕ → State → Course
up_to s list n b = course s list (n - b.step) b

abbrev pub going : Setting → List Choice → ℕ → State → Course
going s list n b = after_step b.step (step_of s b b.set) (λ mid. course s list (n - (b.step + 1)) mid)

begun_ok : (s : Setting) (list : List Choice) (n : ℕ) (b : State) (x : Set) → b.step < n → chosen s b 0 list b.set ≡ Ok x
    → up_to s list n b ≡ going s list n (with_set b x)
unfolding course
begun_ok s list n b x lt is =
    let left : n - b.step ≡ suc (n - (b.step + 1)) = omega arith in
    ap (λ (k : ℕ). course s list k b) left
    ∙ ap (λ (r : Result Set ℕ). after_choices s b r (λ mid. course s list (n - (b.step + 1)) mid)) is
    ∙ ap (λ (r : steps.Result). after_step b.step r (λ mid. course s list (n - (b.step + 1)) mid)) (sym (same_step s b x x))

begun_bad : (s : Setting) (list : List Choice) (n : ℕ) (b : State) (at : ℕ) → b.step < n → chosen s b 0 list b.set ≡ Err at
    → up_to s list n b ≡ record { reports = []; count = b.step; end = BadAt at }
unfolding course
begun_bad s list n b at lt is =
    let left : n - b.step ≡ suc (n - (b.step + 1)) = omega arith in
    ap (λ (k : ℕ). course s list k b) left
    ∙ ap (λ (r : Result Set ℕ). after_choices s b r (λ mid. course s list (n - (b.step + 1)) mid)) is

at_bound : (s : Setting) (list : List Choice) (n : ℕ) (b : State) → n ≤ b.step
    → up_to s list n b ≡ record { reports = []; count = b.step; end = Ended Bound }
unfolding course
at_bound s list n b le = let left : n - b.step ≡ 0 = omega arith in ap (λ (k : ℕ). course s list k b) left

behind_join : (xs ys : List Report) (c : Course) → behind (xs ++ ys) c ≡ behind xs (behind ys c)
behind_join xs ys c = ap (λ (l : List Report). record c { reports = l }) (append_assoc xs ys c.reports)

went : (s : Setting) (list : List Choice) (n : ℕ) (b mid : State) (now : Report) → step_of s b b.set ≡ Went now mid
    → going s list n b ≡ behind (now ∷ []) (up_to s list n mid)
went s list n b mid now is =
    let count = counted_by s b mid b.set now is in
    ap (λ (r : steps.Result). after_step b.step r (λ m. course s list (n - (b.step + 1)) m)) is
    ∙ ap (λ (k : ℕ). behind (now ∷ []) (course s list (n - k) mid)) (sym count)

stood : (s : Setting) (list : List Choice) (n : ℕ) (b : State) (stop : Stop) → step_of s b b.set ≡ Halts stop
    → going s list n b ≡ record { reports = []; count = b.step; end = Ended (Stopped stop) }
stood s list n b stop is = ap (λ (r : steps.Result). after_step b.step r (λ m. course s list (n - (b.step + 1)) m)) is

-- ---- steps with no choices between them

steps_counted : (s : Setting) (old last : State) (reports : List Report) → StepsBy s translations_of old reports last
    → last.step ≡ old.step + length reports
unfolding StepsBy
steps_counted s old last [] h = let e : old.step + 0 ≡ old.step = omega arith in ap (λ (b : State). b.step) h ∙ sym e
steps_counted s old last (now ∷ later) h =
    let count = counted_by s old h.0 old.set now h.1 in
    let rest = steps_counted s h.0 last later h.2 in
    omega (arith, count, rest)

-- no choice is of a step between these two
abbrev Free : Setting → List Choice → ℕ → ℕ → Type 0
Free s list from until = (b : State) → from < b.step → b.step < until → chosen s b 0 list b.set ≡ Ok b.set

gone : (s : Setting) (list : List Choice) (n until from : ℕ) (later : List Report) (old last : State) (now : Report) → from ≤ old.step
    → last.step ≤ until → until ≤ n → Free s list from until
    → StepsBy s translations_of old (now ∷ later) last → going s list n old ≡ behind (now ∷ later) (up_to s list n last)
unfolding StepsBy
gone s list n until from [] old last now le most bound free h =
    went s list n old h.0 now h.1 ∙ ap (λ (b : State). behind (now ∷ []) (up_to s list n b)) (sym h.2)
gone s list n until from (next ∷ later) old last now le most bound free h =
    let count = counted_by s old h.0 old.set now h.1 in
    let rest = steps_counted s h.0 last (next ∷ later) h.2 in
    let more : h.0.step < last.step = omega (arith, rest) in
    let here = free h.0 (omega (arith, count)) (omega (arith, more)) in
    went s list n old h.0 now h.1
    ∙ ap (λ (c : Course). behind (now ∷ []) c) (begun_ok s list n h.0 h.0.set (omega (arith, more)) here ∙ gone s list n until from later
    h.0 last next (omega (arith, count)) most bound free h.2)

-- the course over a slice, and from its last state on
record Gone (s : Setting) (list : List Choice) (n : ℕ) (old : State) (reports : List Report) (last : State) : Type 0 where
  here : going s list n old ≡ behind reports (going s list n last)

gone_short : (s : Setting) (list : List Choice) (n until : ℕ) (old last : State) (reports : List Report) → last.step < until → until ≤ n
    → Free s list old.step until → StepsBy s translations_of old reports last
    → going s list n old ≡ behind reports (going s list n last)
unfolding StepsBy
gone_short s list n until old last [] lt bound free h = ap (λ (b : State). going s list n b) (sym h)
gone_short s list n until old last (now ∷ later) lt bound free h =
    let count = steps_counted s old last (now ∷ later) h in
    let more : old.step < last.step = omega (arith, count) in
    gone s list n until old.step later old last now (omega arith) (omega arith) bound free h
    ∙ ap (λ (c : Course). behind (now ∷ later) c) (begun_ok s list n last last.set (omega arith) (free last more lt))

gone_whole : (s : Setting) (list : List Choice) (n until : ℕ) (old last : State) (reports : List Report) → old.step < until
    → last.step ≡ until → until ≤ n → Free s list old.step until → StepsBy s translations_of old reports last
    → going s list n old ≡ behind reports (up_to s list n last)
gone_whole s list n until old last [] lt at bound free h = let count = steps_counted s old last [] h in absurd (omega (arith, count, at))
gone_whole s list n until old last (now ∷ later) lt at bound free h =
    gone s list n until old.step later old last now (omega arith) (omega (arith, at)) bound free h

-- a course that these reports begin
record BeginsWith (c : Course) (reports : List Report) : Type 0 where
  later : List Report
  all : c.reports ≡ reports ++ later

gone_some : (s : Setting) (list : List Choice) (n until : ℕ) (old last : State) (reports : List Report) → last.step ≤ until → until ≤ n
    → Free s list old.step until → StepsBy s translations_of old reports last
    → BeginsWith (going s list n old) reports
gone_some s list n until old last [] le bound free h = record { later = (going s list n old).reports; all = refl }
gone_some s list n until old last (now ∷ later) le bound free h =
    record {
      later = (up_to s list n last).reports;
      all = ap (λ (c : Course). c.reports) (gone s list n until old.step later old last now (omega arith) le bound free h);
    }

-- ---- where the next choice is

from_until : (least until : ℕ) (list : List Choice) (at : ℕ) → AreFrom least (drop at list) → until ≤ next_step list at until
    → AreFrom until (drop at list)
from_until least until list at h le = by (slice_get list at) refl le
  where
    by : (o : Option Choice) → slice_get list at ≡ o → until ≤ next_of o until → AreFrom until (drop at list)
    by None is e = subst (AreFrom until) (sym (none_left list at is)) tt
    by (Some c) is e =
        let next = (next_is list at c is).0 in
        let from : AreFrom least (c ∷ drop (at + 1) list) = subst (AreFrom least) next h in
        subst (AreFrom until) (sym next) (omega (arith, e), from.1, from.2, from.3)

next_within : (o : Option Choice) (bound : ℕ) → next_of o bound ≤ next_of o (next_of o bound)
next_within None bound = omega arith
next_within (Some c) bound = omega arith

pub splits_until : (list : List Choice) (at step bound : ℕ) → Splits list at (step + 1) → step + 1 ≤ next_step list at bound
    → Splits list at (next_step list at bound)
splits_until list at step bound h le = record {
  within = h.within;
  before = below_later (step + 1) (next_step list at bound) (take at list) le h.before;
  from = from_until (step + 1) (next_step list at bound) list at h.from (next_within (slice_get list at) bound);
}

next_below : (o : Option Choice) (bound : ℕ) → next_of o bound ≤ bound
next_below None bound = omega arith
next_below (Some c) bound = omega arith

pub next_step-below : (list : List Choice) (at bound : ℕ) → next_step list at bound ≤ bound
next_step-below list at bound = next_below (slice_get list at) bound

next_above : (step bound : ℕ) (list : List Choice) (at : ℕ) → AreFrom (step + 1) (drop at list) → step < bound
    → step < next_step list at bound
next_above step bound list at h lt = by (slice_get list at) refl
  where
    by : (o : Option Choice) → slice_get list at ≡ o → step < next_of o bound
    by None is = lt
    by (Some c) is =
        let from : AreFrom (step + 1) (c ∷ drop (at + 1) list) = subst (AreFrom (step + 1)) (next_is list at c is).0 h in
        omega (arith, from.0)

pub next_step-above : (step bound : ℕ) (list : List Choice) (at : ℕ) → Splits list at (step + 1) → step < bound
    → step < next_step list at bound
next_step-above step bound list at h lt = next_above step bound list at h.from lt

free_between : (s : Setting) (list : List Choice) (at step until : ℕ) → Splits list at (step + 1) → Splits list at until
    → Free s list step until
free_between s list at step until h later b more less =
    untouched s b list at b.set h.within (below_later (step + 1) b.step (take at list) (omega arith) h.before)
    (from_more until (b.step + 1) (drop at list) (omega arith) later.from)
  where
    from_more : (least less : ℕ) (xs : List Choice) → less ≤ least → AreFrom least xs → AreFrom less xs
    from_more least less [] le h = tt
    from_more least less (x ∷ xs) le h = (omega (arith, h.0, le), h.1, h.2, h.3)

-- ---- how near the course is to its end

pub record Nears (s : Setting) (list : List Choice) (n : ℕ) (first now : State) (told tells : Option (List ℕ)) : Type 0 where
  pub reports : List Report
  pub course_is : up_to s list n first ≡ behind reports (up_to s list n now)
  pub text : Appends told tells (lines_of (trace_of reports))

pub nears_none : (s : Setting) (list : List Choice) (n : ℕ) (first : State) (told : Option (List ℕ)) → Nears s list n first first told told
nears_none s list n first told = record { reports = []; course_is = refl; text = appends_none told }

-- what is known before a slice: the choices of its first step were made
pub record Ready (s : Setting) (list : List Choice) (n at : ℕ) (now made : State) : Type 0 where
  pub less : now.step < n
  pub chosen_is : chosen s now 0 list now.set ≡ Ok made.set
  pub same : made ≡ with_set now made.set
  pub splits : Splits list at (now.step + 1)

at_same : (s : Setting) (list : List Choice) (n at : ℕ) (now made : State) → Ready s list n at now made → made.step ≡ now.step
at_same s list n at now made r = ap (λ (b : State). b.step) r.same

going_made : (s : Setting) (list : List Choice) (n at : ℕ) (now made : State) → Ready s list n at now made
    → up_to s list n now ≡ going s list n made
going_made s list n at now made r = begun_ok s list n now made.set r.less r.chosen_is ∙ ap (λ (b : State). going s list n b) (sym r.same)

free_made : (s : Setting) (list : List Choice) (n at : ℕ) (now made : State) → Ready s list n at now made
    → Free s list made.step (next_step list at n)
free_made s list n at now made r =
    let above = next_step-above now.step n list at r.splits r.less in
    subst (λ (k : ℕ). Free s list k (next_step list at n)) (sym (at_same s list n at now made r))
    (free_between s list at now.step (next_step list at n) r.splits (splits_until list at now.step n r.splits (omega (arith, above))))

-- a slice goes on
pub nears_on : (s : Setting) (list : List Choice) (n at : ℕ) (first now made new : State) (told so_far tells : Option (List ℕ))
    → Nears s list n first now told so_far → Ready s list n at now made
    → SliceAs s true (next_step list at n) made new so_far tells (Ok pause.Reached) → Nears s list n first new told tells
nears_on s list n at first now made new told so_far tells near r h =
    let above = next_step-above now.step n list at r.splits r.less in
    let less : made.step < next_step list at n = omega (arith, above, at_same s list n at now made r) in
    let whole = gone_whole s list n (next_step list at n) made h.last h.reports less h.ends.0 (next_step-below list at n)
    (free_made s list n at now made r) (h.passes.exactly refl) in
    record {
      reports = near.reports ++ h.reports;
      course_is =
          near.course_is
          ∙ ap (λ (c : Course). behind near.reports c) (going_made s list n at now made r ∙ whole)
          ∙ sym (behind_join near.reports h.reports (up_to s list n h.last))
          ∙ ap (λ (b : State). behind (near.reports ++ h.reports) (up_to s list n b)) (sym h.ends.1);
      text = subst (Appends told tells) (sym (reported near.reports h.reports)) (appends_both told so_far tells _ _ near.text h.text);
    }

pub at_stop : (s : Setting) (list : List Choice) (n at : ℕ) (first now made new : State) (stop : Stop) (told so_far tells : Option (List ℕ))
    → Nears s list n first now told so_far → Ready s list n at now made
    → SliceAs s true (next_step list at n) made new so_far tells (Ok (pause.Stopped stop))
    → FollowsAs (up_to s list n first) new.step told tells (Ok (Ended (Stopped stop)))
at_stop s list n at first now made new stop told so_far tells near r h =
    let short = gone_short s list n (next_step list at n) made h.last h.reports h.ends.0 (next_step-below list at n)
    (free_made s list n at now made r) (h.passes.exactly refl) in
    let all =
    near.course_is
    ∙ ap (λ (c : Course). behind near.reports c) (going_made s list n at now made r ∙ short)
    ∙ sym (behind_join near.reports h.reports (going s list n h.last))
    ∙ ap (λ (c : Course). behind (near.reports ++ h.reports) c) (stood s list n h.last stop h.ends.2) in
    let reports : (up_to s list n first).reports ≡ near.reports ++ h.reports =
    ap (λ (c : Course). c.reports) all ∙ append-nil (near.reports ++ h.reports) in (
      ap (λ (c : Course). c.end) all,
      ap (λ (c : Course). c.count) all ∙ sym h.ends.1,
      subst (Appends told tells) (sym (ap (λ (l : List Report). lines_of (trace_of l)) reports ∙ reported near.reports h.reports))
          (appends_both told so_far tells _ _ near.text h.text),
    )

pub at_failure : (s : Setting) (list : List Choice) (n at : ℕ) (first now made new : State) (failed : Failed)
    (told so_far tells : Option (List ℕ)) (count : ℕ) → Nears s list n first now told so_far → Ready s list n at now made
    → SliceAs s true (next_step list at n) made new so_far tells (Err failed)
    → FollowsAs (up_to s list n first) count told tells (Err failed)
at_failure s list n at first now made new failed told so_far tells count near r h =
    let some = gone_some s list n (next_step list at n) made h.last h.reports h.ends (next_step-below list at n)
    (free_made s list n at now made r) (h.passes.exactly refl) in
    let reports : (up_to s list n first).reports ≡ near.reports ++ (h.reports ++ some.later) =
    ap (λ (c : Course). c.reports) (near.course_is ∙ ap (λ (c : Course). behind near.reports c) (going_made s list n at now made r))
    ∙ ap (λ (l : List Report). near.reports ++ l) some.all in
    front_of told so_far tells (lines_of (trace_of near.reports)) (lines_of (trace_of h.reports)) (lines_of (trace_of some.later))
    (lines_of (trace_of (up_to s list n first).reports)) near.text h.text
    (ap (λ (l : List Report). lines_of (trace_of l)) reports ∙ reported near.reports (h.reports ++ some.later)
    ∙ ap (λ (l : List ℕ). lines_of (trace_of near.reports) ++ l) (reported h.reports some.later))

pub at_bad : (s : Setting) (list : List Choice) (n at : ℕ) (first now : State) (told tells : Option (List ℕ))
    → Nears s list n first now told tells → now.step < n → chosen s now 0 list now.set ≡ Err at
    → FollowsAs (up_to s list n first) now.step told tells (Ok (BadAt at))
at_bad s list n at first now told tells near less is =
    let all = near.course_is ∙ ap (λ (c : Course). behind near.reports c) (begun_bad s list n now at less is) in
    let reports : (up_to s list n first).reports ≡ near.reports = ap (λ (c : Course). c.reports) all ∙ append-nil near.reports in (
      ap (λ (c : Course). c.end) all,
      ap (λ (c : Course). c.count) all,
      subst (λ (l : List Report). Appends told tells (lines_of (trace_of l))) (sym reports) near.text,
    )

pub at_end : (s : Setting) (list : List Choice) (n : ℕ) (first now : State) (told tells : Option (List ℕ))
    → Nears s list n first now told tells → n ≤ now.step → FollowsAs (up_to s list n first) now.step told tells (Ok (Ended Bound))
at_end s list n first now told tells near le =
    let all = near.course_is ∙ ap (λ (c : Course). behind near.reports c) (at_bound s list n now le) in
    let reports : (up_to s list n first).reports ≡ near.reports = ap (λ (c : Course). c.reports) all ∙ append-nil near.reports in (
      ap (λ (c : Course). c.end) all,
      ap (λ (c : Course). c.count) all,
      subst (λ (l : List Report). Appends told tells (lines_of (trace_of l))) (sym reports) near.text,
    )

-- ---- what a function's call says

pub at_start : (list : List Choice) (step : ℕ) → step ≡ 0 → AreChoices list → Splits list 0 step
at_start list step first form = record { within = omega arith; before = tt; from = subst (λ (k : ℕ). AreFrom k list) (sym first) form.each }

pub ready_from : (image : Image) (script : Events) (f f2 : ℕ) (list : List Choice) (n next : ℕ) (now made : State) → f2 ≡ f → now.step < n
    → MadeAs (bare image script f2) list now made (Ok next) → Splits list next (now.step + 1)
    → Ready (bare image script f) list n next now made
ready_from image script f f2 list n next now made same less h splits = record {
  less = less;
  chosen_is = subst (λ (k : ℕ). chosen (bare image script k) now 0 list now.set ≡ Ok made.set) same h.0;
  same = h.1;
  splits = splits;
}

pub bad_from : (image : Image) (script : Events) (f f2 : ℕ) (list : List Choice) (bad : ℕ) (now made : State) → f2 ≡ f
    → MadeAs (bare image script f2) list now made (Err bad) → chosen (bare image script f) now 0 list now.set ≡ Err bad
bad_from image script f f2 list bad now made same h = subst (λ (k : ℕ). chosen (bare image script k) now 0 list now.set ≡ Err bad) same h

pub sliced : (image : Image) (script : Events) (f f2 : ℕ) (exact : Bool) (b b2 : ℕ) (old new : State) (told tells : Option (List ℕ))
    (r r2 : Result Pause Failed) → f2 ≡ f → exact ≡ true → b2 ≡ b → r2 ≡ r
    → SliceAs (bare image script f2) exact b2 old new told tells r2 → SliceAs (bare image script f) true b old new told tells r
sliced image script f f2 exact b b2 old new told tells r r2 frames is bound same h =
    subst (λ (k : ℕ). SliceAs (bare image script k) true b old new told tells r) frames
    (subst (λ (x : Bool). SliceAs (bare image script f2) x b old new told tells r) is
    (subst (λ (k : ℕ). SliceAs (bare image script f2) exact k old new told tells r) bound
    (subst (λ (x : Result Pause Failed). SliceAs (bare image script f2) exact b2 old new told tells x) same h)))

pub from_start : (s : Setting) (list : List Choice) (n : ℕ) (first : State) (count : ℕ) (told tells : Option (List ℕ))
    (r : Result CourseEnd Failed) → first.step ≡ 0 → FollowsAs (up_to s list n first) count told tells r
    → FollowsAs (course s list n first) count told tells r
from_start s list n first count told tells r begin h =
    let all : n - first.step ≡ n = omega (arith, begin) in
    subst (λ (k : ℕ). FollowsAs (course s list k first) count told tells r) all h

pub slice_bound : (step made result until : ℕ) → made ≡ step → result ≡ until → step < until → made + (result - step) ≡ until
slice_bound step made result until same is less = omega arith
