-- Runs before each step of which nothing is cached.
use Rattle.std.proofs.Common.{◌≡◌, ℕ, zero, suc, ◌+◌, ◌-◌, ◌≤◌, ◌<◌, Bool, List, [], ◌∷◌, ◌++◌, length, replicate, Option, Result, Ok, Err, refl, sym, ap, subst, ◌∙◌, append_assoc, arith}
use Rattle.std.proofs.lemmas.List.{append-nil}
use Rattle.std.specs.FinMap.{empty, get-empty}
use Rattle.std.specs.Ordering.{nat_cmp}
use Rattle.std.proofs.lemmas.Option.{none-some}
use Rattle.pv_io.specs.declared.answer.Failed.{Failed}
use Rattle.pv_io.specs.Causes.{Rose}
use Rattle.pv_io.specs.Sink.{Appends, AppendsFront}
use Rattle.ia32_types.specs.declared.stop.Stop.{Stop}
use Rattle.run_trace.specs.declared.pause.Pause.TheVariants.{Reached, Stopped}
use Rattle.image_load.specs.declared.fault.RunFault.{RunFault}
use Rattle.image_load.specs.declared.fault.RunFault.TheVariants as fault
use Rattle.run_trace.specs.declared.items.End.{End}
use Rattle.run_trace.specs.declared.items.End.TheVariants as ends
use Rattle.run_trace.specs.declared.items.Ended.{Ended}
use Rattle.run_trace.specs.Text.{lines_of, end_line, text_of}
use Rattle.machine_model.specs.State.{Setting, State, Loosened, boot}
use Rattle.machine_model.specs.Step as steps
use Rattle.machine_model.specs.Step.{Report, Went, Halts, step_of}
use Rattle.machine_model.specs.Run.{Set, Steps, trace_of, with_set}
use Rattle.machine_model.specs.Ends.{StepsTo}
use Rattle.machine_model.proofs.Counting.{each_counts}
use Rattle.machine_model.proofs.Counted.{counted_by, steps_counted}
use Rattle.machine_model.proofs.Texts.{reported}
use Rattle.board.specs.Scripts.{Events}
use Rattle.image_check.specs.Image.{Image}
use Rattle.image_load.specs.Boot.{need}
use Rattle.bare_machine.specs.Machine.{Passes, FirstIs}
use Rattle.bare_machine.specs.Settings.{bare}
use Rattle.bare_machine.specs.Slices.{SliceAs}
use Rattle.bare_machine.specs.Answers.{RunsTo, WholeAs, RunAnswers}
use Rattle.bare_machine.specs.Ending.{EndsAs}
use Rattle.bare_machine.specs.Starts.{NotBegun}
use Rattle.bare_machine.specs.FreshRuns.{Course, after_step, fresh_course, course_text}
use Rattle.bare_machine.specs.FreshLaws.{IsFreshRun, EachCourseIsARun}
use Rattle.bare_machine.specs.FreshTexts.{CourseAs, Comes, FreshAnswers}
use Rattle.bare_machine.proofs.Runs.{same_step}
use Rattle.bare_machine.proofs.Wholes.{answered}
use Rattle.pv_io.proofs.Pieces.{appends_both, appends_none, front_of}

-- a course with reports before it
abbrev pub behind : List Report → Course → Course
behind reports c = record c { reports = reports ++ c.reports }

pub behind_join : (xs ys : List Report) (c : Course) → behind (xs ++ ys) c ≡ behind xs (behind ys c)
behind_join xs ys c = ap (λ (l : List Report). record c { reports = l }) (append_assoc xs ys c.reports)

-- the set that a state holds makes no difference
pub same_course : (s : Setting) (k : ℕ) (b : State) (set : Set) → fresh_course s k (with_set b set) ≡ fresh_course s k b
unfolding fresh_course
same_course s zero b set = refl
same_course s (suc k) b set = ap (λ (r : steps.Result). after_step b r (λ mid. fresh_course s k mid)) (same_step s b set empty)

went_on : (s : Setting) (k : ℕ) (b mid : State) (now : Report) → step_of s b empty ≡ Went now mid
    → fresh_course s (suc k) b ≡ behind (now ∷ []) (fresh_course s k mid)
unfolding fresh_course
went_on s k b mid now is = ap (λ (r : steps.Result). after_step b r (λ mid. fresh_course s k mid)) is

stood : (s : Setting) (k : ℕ) (b : State) (stop : Stop) → step_of s b empty ≡ Halts stop
    → fresh_course s (suc k) b ≡ record { reports = []; count = b.step; end = ends.Stopped stop }
unfolding fresh_course
stood s k b stop is = ap (λ (r : steps.Result). after_step b r (λ mid. fresh_course s k mid)) is

-- the course from a state up to a count of steps
abbrev pub up_to : Setting → ℕ → State → Course
up_to s n b = fresh_course s (n - b.step) b

no_step : (s : Setting) (n : ℕ) (old last : State) (whole : Set) → with_set last whole ≡ old → up_to s n old ≡ up_to s n last
no_step s n old last whole is =
    sym (ap (λ (b : State). up_to s n b) is) ∙ same_course s (n - last.step) last whole

one_step : (s : Setting) (n : ℕ) (old mid last : State) (whole : Set) (now : Report) → old.step < n → step_of s old empty ≡ Went now mid
    → with_set last whole ≡ mid
    → up_to s n old ≡ behind (now ∷ []) (up_to s n last)
one_step s n old mid last whole now less is to =
    let count = counted_by s old mid empty now is in
    let at : last.step ≡ mid.step = ap (λ (b : State). b.step) to in
    let left : n - old.step ≡ suc (n - last.step) = omega (arith, less, count, at) in
    ap (λ (k : ℕ). fresh_course s k old) left
    ∙ (went_on s (n - last.step) old mid now is
    ∙ ap (λ (c : Course). behind (now ∷ []) c)
    (ap (λ (b : State). fresh_course s (n - last.step) b) (sym to) ∙ same_course s (n - last.step) last whole))

-- what at most one step says of the course, where nothing was cached before it
pub at_most_one : (s : Setting) (n : ℕ) (old last : State) (sets : List Set) (reports : List Report) (whole : Set) → old.set ≡ empty
    → old.step < n → last.step ≤ old.step + 1
    → Steps s old sets reports (with_set last whole) → FirstIs old.set (sets ++ last.set ∷ [])
    → up_to s n old ≡ behind reports (up_to s n last)
unfolding Steps
at_most_one s n old last [] reports whole clear less most h first =
    no_step s n old last whole h.1 ∙ ap (λ (l : List Report). behind l (up_to s n last)) (sym h.0)
at_most_one s n old last (set ∷ []) reports whole clear less most h first =
    let is : step_of s old empty ≡ Went h.1 h.0 = subst (λ (x : Set). step_of s old x ≡ Went h.1 h.0) (first ∙ clear) h.4 in
    let all : reports ≡ h.1 ∷ [] = h.6 ∙ ap (λ (l : List Report). h.1 ∷ l) h.5.0 in
    one_step s n old h.0 last whole h.1 less is h.5.1 ∙ ap (λ (l : List Report). behind l (up_to s n last)) (sym all)
at_most_one s n old last (set ∷ next ∷ sets) reports whole clear less most h first =
    let all = steps_counted s old (set ∷ next ∷ sets) reports (with_set last whole) h in
    absurd (omega (arith, all, most))

-- where no step was done the cache is as it was
none_done : (s : Setting) (old last : State) (sets : List Set) (reports : List Report) (whole : Set) → last.step < old.step + 1
    → Steps s old sets reports (with_set last whole) → FirstIs old.set (sets ++ last.set ∷ []) → last.set ≡ old.set
none_done s old last [] reports whole less h first = first
none_done s old last (set ∷ sets) reports whole less h first =
    let all = steps_counted s old (set ∷ sets) reports (with_set last whole) h in
    absurd (omega (arith, all, less))

-- some steps were done, the lines were put, and the course goes on
pub record Nears (s : Setting) (n : ℕ) (old now : State) (told tells : Option (List ℕ)) : Type 0 where
  pub reports : List Report
  pub course : up_to s n old ≡ behind reports (up_to s n now)
  pub text : Appends told tells (lines_of (trace_of reports))

pub nears_none : (s : Setting) (n : ℕ) (b : State) (told : Option (List ℕ)) → Nears s n b b told told
nears_none s n b told = record { reports = []; course = refl; text = appends_none told }

pub nears_cleared : (s : Setting) (n : ℕ) (old now : State) (set : Set) (told tells : Option (List ℕ)) → Nears s n old now told tells
    → Nears s n old (with_set now set) told tells
nears_cleared s n old now set told tells h = record {
  reports = h.reports;
  course = h.course ∙ ap (λ (c : Course). behind h.reports c) (sym (same_course s (n - now.step) now set));
  text = h.text;
}

pub text_behind : (reports : List Report) (c : Course) → course_text (behind reports c) ≡ lines_of (trace_of reports)
    ++ (lines_of (trace_of c.reports) ++ end_line c.count c.end)
unfolding text_of
text_behind reports c =
    ap (λ (l : List ℕ). l ++ end_line c.count c.end) (reported reports c.reports)
    ∙ append_assoc (lines_of (trace_of reports)) (lines_of (trace_of c.reports)) (end_line c.count c.end)

-- the course after a slice of one step
slice_course : (s : Setting) (exact : Bool) (n : ℕ) (old now last : State) (reports later : List Report) → now.set ≡ empty → now.step < n
    → last.step ≤ now.step + 1
    → Passes s exact now later last → up_to s n old ≡ behind reports (up_to s n now)
    → up_to s n old ≡ behind (reports ++ later) (up_to s n last)
slice_course s exact n old now last reports later clear less most p is =
    is ∙ (ap (λ (c : Course). behind reports c) (at_most_one s n now last p.sets later p.whole clear less most p.steps p.first)
    ∙ sym (behind_join reports later (up_to s n last)))

-- a slice of one step more
pub nears_on : (s : Setting) (exact : Bool) (n : ℕ) (old now new : State) (told tells last : Option (List ℕ)) → now.set ≡ empty
    → now.step < n → Nears s n old now told tells
    → SliceAs s exact (now.step + 1) now new tells last (Ok Reached) → Nears s n old new told last
nears_on s exact n old now new told tells last clear less h slice =
    let most : slice.last.step ≤ now.step + 1 = omega (arith, slice.ends.0) in
    record {
      reports = h.reports ++ slice.reports;
      course = slice_course s exact n old now slice.last h.reports slice.reports clear less most slice.passes h.course
          ∙ ap (λ (b : State). behind (h.reports ++ slice.reports) (up_to s n b)) (sym slice.ends.1);
      text = subst (λ (l : List ℕ). Appends told last l) (sym (reported h.reports slice.reports))
          (appends_both told tells last _ _ h.text slice.text);
    }

-- the sink failed in a slice of one step
pub nears_failed : (s : Setting) (exact : Bool) (n : ℕ) (old now new : State) (told tells last : Option (List ℕ)) (failed : Failed)
    (before mid after : ℕ) → now.set ≡ empty → now.step < n → Nears s n old now told tells
    → SliceAs s exact (now.step + 1) now new tells last (Err failed) → mid ≡ before → Rose mid after
    → CourseAs (up_to s n old) told last before after (Err fault.Write)
nears_failed s exact n old now new told tells last failed before mid after clear less h slice same rose =
    let c = up_to s n slice.last in
    let is = slice_course s exact n old now slice.last h.reports slice.reports clear less slice.ends slice.passes h.course in
    let whole = ap course_text is ∙ (text_behind (h.reports ++ slice.reports) c
    ∙ (ap (λ (l : List ℕ). l ++ (lines_of (trace_of c.reports) ++ end_line c.count c.end)) (reported h.reports slice.reports)
    ∙ append_assoc (lines_of (trace_of h.reports)) (lines_of (trace_of slice.reports))
    (lines_of (trace_of c.reports) ++ end_line c.count c.end))) in (
      front_of told tells last (lines_of (trace_of h.reports)) (lines_of (trace_of slice.reports))
          (lines_of (trace_of c.reports) ++ end_line c.count c.end) _ h.text slice.text whole,
      subst (λ (k : ℕ). Rose k after) same rose,
    )

bound_here : (s : Setting) (n : ℕ) (b : State) → n ≤ b.step → up_to s n b ≡ record { reports = []; count = b.step; end = ends.Bound }
unfolding fresh_course
bound_here s n b le =
    let none : n - b.step ≡ 0 = omega (arith, le) in
    ap (λ (k : ℕ). fresh_course s k b) none

pub comes_bound : (s : Setting) (n : ℕ) (old now : State) (told tells : Option (List ℕ)) → n ≤ now.step → Nears s n old now told tells
    → Comes (up_to s n old) now.step ends.Bound told tells
comes_bound s n old now told tells le h = record {
  reports = h.reports;
  course =
      h.course ∙ (ap (λ (c : Course). behind h.reports c) (bound_here s n now le)
      ∙ ap (λ (l : List Report). record { reports = l; count = now.step; end = ends.Bound }) (append-nil h.reports));
  text = h.text;
}

stops_here : (s : Setting) (n : ℕ) (b : State) (stop : Stop) → b.step < n → step_of s b empty ≡ Halts stop
    → up_to s n b ≡ record { reports = []; count = b.step; end = ends.Stopped stop }
stops_here s n b stop less is =
    let left : n - b.step ≡ suc (n - b.step - 1) = omega (arith, less) in
    ap (λ (k : ℕ). fresh_course s k b) left ∙ stood s (n - b.step - 1) b stop is

pub comes_stopped : (s : Setting) (exact : Bool) (n : ℕ) (old now new : State) (told tells last : Option (List ℕ)) (stop : Stop)
    → now.set ≡ empty → now.step < n → Nears s n old now told tells
    → SliceAs s exact (now.step + 1) now new tells last (Ok (Stopped stop)) → Comes (up_to s n old) new.step (ends.Stopped stop) told last
comes_stopped s exact n old now new told tells last stop clear less h slice =
    let p = slice.passes in
    let at : slice.last.step < now.step + 1 = slice.ends.0 in
    let same : slice.last.set ≡ empty = none_done s now slice.last p.sets slice.reports p.whole at p.steps p.first ∙ clear in
    let is : step_of s slice.last empty ≡ Halts stop = subst (λ (x : Set). step_of s slice.last x ≡ Halts stop) same slice.ends.2 in
    let below : slice.last.step < n = omega (arith, at, less) in
    let end = stops_here s n slice.last stop below is in
    record {
      reports = h.reports ++ slice.reports;
      course = slice_course s exact n old now slice.last h.reports slice.reports clear less (omega (arith, at)) p h.course
          ∙ (ap (λ (c : Course). behind (h.reports ++ slice.reports) c) end
          ∙ (ap (λ (l : List Report). record { reports = l; count = slice.last.step; end = ends.Stopped stop })
          (append-nil (h.reports ++ slice.reports))
          ∙ ap (λ (k : ℕ). record { reports = h.reports ++ slice.reports; count = k; end = ends.Stopped stop }) (sym slice.ends.1)));
      text = subst (λ (l : List ℕ). Appends told last l) (sym (reported h.reports slice.reports))
          (appends_both told tells last _ _ h.text slice.text);
    }

text_here : (x : Course) (count : ℕ) (end : End) (told tells : Option (List ℕ)) → (c : Comes x count end told tells)
    → course_text x ≡ lines_of (trace_of c.reports) ++ end_line count end
unfolding text_of
text_here x count end told tells c = ap course_text c.course

-- the last line was put
course_put : (x : Course) (count : ℕ) (end : End) (a b c : Option (List ℕ)) (before mid now : ℕ) → Comes x count end a b
    → Appends b c (end_line count end) → mid ≡ before → now ≡ mid
    → CourseAs x a c before now (Ok (record { steps = count; end = end; fills = 0 }))
course_put x count end a b c before mid now h put same kept = (
  ap (λ (y : Course). record { steps = y.count; end = y.end; fills = 0 }) (sym h.course),
  subst (λ (l : List ℕ). Appends a c l) (sym (text_here x count end a b h)) (appends_both a b c _ _ h.text put),
  kept ∙ same,
)

-- or a front of it
course_unput : (x : Course) (count : ℕ) (end : End) (a b c : Option (List ℕ)) (before mid now : ℕ) → Comes x count end a b
    → AppendsFront b c (end_line count end) → mid ≡ before → Rose mid now
    → CourseAs x a c before now (Err fault.Write)
course_unput x count end a b c before mid now h put same rose = (
  front_of a b c _ (end_line count end) [] _ h.text put
      (text_here x count end a b h ∙ ap (λ (l : List ℕ). lines_of (trace_of h.reports) ++ l) (sym (append-nil (end_line count end)))),
  subst (λ (k : ℕ). Rose k now) same rose,
)

-- the steps are done, and the last line answers
pub course_ended : (x : Course) (count : ℕ) (end : End) (a b c : Option (List ℕ)) (before mid now : ℕ) (result : Result Ended RunFault)
    → Comes x count end a b → mid ≡ before → EndsAs count end b c mid now result
    → CourseAs x a c before now result
course_ended x count end a b c before mid now (Ok ended) h same e =
    subst (λ (y : Ended). CourseAs x a c before now (Ok y)) (sym e.0) (course_put x count end a b c before mid now h e.1 same e.2)
course_ended x count end a b c before mid now (Err fault.Write) h same e = course_unput x count end a b c before mid now h e.0 same e.1
course_ended x count end a b c before mid now (Err (fault.TooSmall small)) h same e = absurd e
course_ended x count end a b c before mid now (Err fault.Memory) h same e = absurd e

-- nothing is cached
empty_allowed : (s : Setting) (b : State) → Loosened s b empty
empty_allowed s b = record { each = λ page e is. absurd (none-some e (sym (get-empty nat_cmp page) ∙ is)) }

run_from : (k : ℕ) (s : Setting) (n : ℕ) (b : State) (r : steps.Result) → step_of s b empty ≡ r → StepsTo (b.step + 1) r
    → b.step + suc k ≡ n
    → ((mid : State) → mid.step + k ≡ n → IsFreshRun s n mid (fresh_course s k mid))
    → IsFreshRun s n b (after_step b r (λ mid. fresh_course s k mid))
unfolding Steps
run_from k s n b (Went now mid) is counts left later =
    let l = later mid (omega (arith, counts, left)) in
    record {
      last = l.last;
      run = record { steps = (mid, now, (fresh_course s k mid).reports, empty_allowed s b, is, l.run.steps, refl); ends = l.run.ends };
      count_is = l.count_is;
    }
run_from k s n b (Halts stop) is counts left later = record {
  last = b;
  run = record { steps = (refl, refl); ends = (omega (arith, left), record { set = empty; allowed = empty_allowed s b; halts = is }) };
  count_is = refl;
}

course_runs : (k : ℕ) (s : Setting) (n : ℕ) (b : State) → b.step + k ≡ n → IsFreshRun s n b (fresh_course s k b)
unfolding Steps fresh_course
course_runs zero s n b left = record { last = b; run = record { steps = (refl, refl); ends = omega (arith, left) }; count_is = refl }
course_runs (suc k) s n b left = run_from k s n b (step_of s b empty) refl (each_counts s b empty) left (λ mid h. course_runs k s n mid h)

pub each_course_runs : EachCourseIsARun
each_course_runs s n b le = course_runs (n - b.step) s n b (omega (arith, le))

runs_to : (s : Setting) (n : ℕ) (b : State) (c : Course) → IsFreshRun s n b c → RunsTo s n b (course_text c) c.count c.end
runs_to s n b c h = record {
  sets = replicate (length c.reports) empty;
  reports = c.reports;
  last = h.last;
  run = h.run;
  count_is = h.count_is;
  text_is = refl;
}

-- a run of a course is a run
pub whole_of : (s : Setting) (n : ℕ) (b : State) (c : Course) (old new : Option (List ℕ)) (before now : ℕ) (result : Result Ended RunFault)
    → IsFreshRun s n b c → CourseAs c old new before now result → WholeAs s n b old new before now result
whole_of s n b c old new before now (Ok ended) r h = (
  course_text c,
  subst (λ (e : Ended). RunsTo s n b (course_text c) e.steps e.end) (sym h.0) (runs_to s n b c r),
  h.1,
  h.2,
)
whole_of s n b c old new before now (Err fault.Write) r h = (course_text c, c.count, c.end, runs_to s n b c r, h.0, h.1)
whole_of s n b c old new before now (Err (fault.TooSmall small)) r h = absurd h
whole_of s n b c old new before now (Err fault.Memory) r h = absurd h

-- a run of the course from the start is the fresh run
pub fresh_answered : (image : Image) (script : Events) (frames n : ℕ) (first : State) (old new : Option (List ℕ)) (before now : ℕ)
    (result : Result Ended RunFault)
    → need image ≤ frames → first ≡ boot (bare image script frames) → CourseAs (fresh_course (bare image script frames) n first) old new
    before now result → FreshAnswers image script frames n old new before now result
fresh_answered image script frames n first old new before now (Ok ended) fits is h =
    (fits, subst (λ (b : State). CourseAs (fresh_course (bare image script frames) n b) old new before now (Ok ended)) is h)
fresh_answered image script frames n first old new before now (Err fault.Write) fits is h =
    (fits, subst (λ (b : State). CourseAs (fresh_course (bare image script frames) n b) old new before now (Err fault.Write)) is h)
fresh_answered image script frames n first old new before now (Err (fault.TooSmall small)) fits is h = absurd h
fresh_answered image script frames n first old new before now (Err fault.Memory) fits is h = absurd h

-- and it is a run
pub fresh_run_answered : (image : Image) (script : Events) (frames n : ℕ) (first : State) (old new : Option (List ℕ)) (before now : ℕ)
    (result : Result Ended RunFault)
    → need image ≤ frames → first.step ≡ 0 → first ≡ boot (bare image script frames)
    → CourseAs (fresh_course (bare image script frames) n first) old new before now result
    → RunAnswers image script frames n old new before now result
fresh_run_answered image script frames n first old new before now result fits start is h =
    answered image script frames n first old new before now result fits is
    (whole_of (bare image script frames) n first _ old new before now result
    (course_runs n (bare image script frames) n first (omega (arith, start))) h)

-- the same where no step was done at the start
all_left : (s : Setting) (n : ℕ) (old : State) → old.step ≡ 0 → up_to s n old ≡ fresh_course s n old
all_left s n old start =
    let left : n - old.step ≡ n = omega (arith, start) in
    ap (λ (k : ℕ). fresh_course s k old) left

pub failed_from_start : (s : Setting) (exact : Bool) (n : ℕ) (old now new : State) (told tells last : Option (List ℕ)) (failed : Failed)
    (before mid after : ℕ) → old.step ≡ 0 → now.set ≡ empty → now.step < n → Nears s n old now told tells
    → SliceAs s exact (now.step + 1) now new tells last (Err failed) → mid ≡ before → Rose mid after
    → CourseAs (fresh_course s n old) told last before after (Err fault.Write)
failed_from_start s exact n old now new told tells last failed before mid after start clear less h slice same rose =
    subst (λ (c : Course). CourseAs c told last before after (Err fault.Write)) (all_left s n old start)
    (nears_failed s exact n old now new told tells last failed before mid after clear less h slice same rose)

pub stopped_from_start : (s : Setting) (exact : Bool) (n : ℕ) (old now new : State) (told tells last : Option (List ℕ)) (stop : Stop)
    → old.step ≡ 0 → now.set ≡ empty → now.step < n → Nears s n old now told tells
    → SliceAs s exact (now.step + 1) now new tells last (Ok (Stopped stop))
    → Comes (fresh_course s n old) new.step (ends.Stopped stop) told last
stopped_from_start s exact n old now new told tells last stop start clear less h slice =
    subst (λ (c : Course). Comes c new.step (ends.Stopped stop) told last) (all_left s n old start)
    (comes_stopped s exact n old now new told tells last stop clear less h slice)

pub bound_from_start : (s : Setting) (n : ℕ) (old now : State) (told tells : Option (List ℕ)) → old.step ≡ 0 → n ≤ now.step
    → Nears s n old now told tells → Comes (fresh_course s n old) now.step ends.Bound told tells
bound_from_start s n old now told tells start le h =
    subst (λ (c : Course). Comes c now.step ends.Bound told tells) (all_left s n old start) (comes_bound s n old now told tells le h)

-- a run that does not begin writes nothing
pub fresh_unbegun : (image : Image) (script : Events) (frames n : ℕ) (old : Option (List ℕ)) (before : ℕ) (why : RunFault)
    → NotBegun image frames why → FreshAnswers image script frames n old old before before (Err why)
fresh_unbegun image script frames n old before fault.Write h = absurd h
fresh_unbegun image script frames n old before (fault.TooSmall small) h = (h.0, h.1, refl, refl)
fresh_unbegun image script frames n old before fault.Memory h = (refl, refl)
