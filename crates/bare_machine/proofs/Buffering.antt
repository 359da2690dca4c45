-- Runs of which a cache keeps what each step has left.
use Rattle.std.proofs.Common.{◌≡◌, ℕ, suc, ◌+◌, ◌-◌, ◌≤◌, ◌<◌, List, [], ◌∷◌, ◌++◌, Option, Result, Ok, Err, refl, sym, ap, subst, ◌∙◌, arith}
use Rattle.std.proofs.lemmas.List.{append-nil}
use Rattle.pv_io.specs.declared.answer.Failed.{Failed}
use Rattle.pv_io.specs.Causes.{Rose}
use Rattle.pv_io.specs.Sink.{Appends, AppendsFront}
use Rattle.pv_io.proofs.Pieces.{appends_both, appends_none, front_of}
use Rattle.ia32_types.specs.declared.stop.Stop.{Stop}
use Rattle.run_trace.specs.declared.items.What.{What}
use Rattle.run_trace.specs.declared.items.Ended.{Ended}
use Rattle.run_trace.specs.declared.items.End.TheVariants as ends
use Rattle.run_trace.specs.declared.pause.Pause.{Pause}
use Rattle.run_trace.specs.declared.pause.Pause.TheVariants.{Reached, Stopped}
use Rattle.run_trace.specs.Pauses.{end_of}
use Rattle.run_trace.specs.Text.{lines_of, end_line}
use Rattle.board.specs.Scripts.{Events}
use Rattle.image_check.specs.Image.{Image}
use Rattle.image_load.specs.Boot.{need}
use Rattle.image_load.specs.declared.fault.RunFault.{RunFault}
use Rattle.image_load.specs.declared.fault.RunFault.TheVariants as fault
use Rattle.machine_model.specs.State.{Setting, State, boot}
use Rattle.machine_model.specs.Step as steps
use Rattle.machine_model.specs.Step.{Report, Went, Halts, step_of, items_at}
use Rattle.machine_model.specs.Run.{trace_of}
use Rattle.machine_model.proofs.Counted.{counted_by}
use Rattle.bare_mem.specs.Keeping.{Keeps}
use Rattle.bare_machine.specs.Settings.{bare}
use Rattle.bare_machine.specs.Starts.{NotBegun}
use Rattle.bare_machine.specs.FreshRuns.{Course, after_step, course_text}
use Rattle.bare_machine.specs.FreshTexts.{CourseAs, CourseAnswers, Comes}
use Rattle.bare_machine.specs.Buffered.{kept_by, kept_step, kept_course, buffered_run, in_buffer, LedTo, KeptSteps, KeptRests, KeptSlice}
use Rattle.bare_machine.proofs.Going.{lines_on, silent_join}
use Rattle.bare_machine.proofs.Freshly.{behind, behind_join, text_behind}

-- ---- steps

pub kept_none : (keeping : Keeps) (s : Setting) (b : State) → KeptSteps keeping s b [] b
unfolding KeptSteps
kept_none keeping s b = refl

kept_on : (keeping : Keeps) (s : Setting) (old mid new : State) (reports : List Report) (now : Report)
    → KeptSteps keeping s old reports mid → kept_step keeping s mid ≡ Went now new → KeptSteps keeping s old (reports ++ now ∷ []) new
unfolding KeptSteps
kept_on keeping s old mid new [] now so_far is = (new, subst (λ (b : State). kept_step keeping s b ≡ Went now new) so_far is, refl)
kept_on keeping s old mid new (r ∷ reports) now so_far is = (so_far.0, so_far.1, kept_on keeping s so_far.0 mid new reports now so_far.2 is)

kept_join : (keeping : Keeps) (s : Setting) (old mid new : State) (reports later : List Report)
    → KeptSteps keeping s old reports mid → KeptSteps keeping s mid later new → KeptSteps keeping s old (reports ++ later) new
unfolding KeptSteps
kept_join keeping s old mid new [] later first rest = subst (λ (b : State). KeptSteps keeping s b later new) first rest
kept_join keeping s old mid new (r ∷ reports) later first rest =
    (first.0, first.1, kept_join keeping s first.0 mid new reports later first.2 rest)

-- ---- a slice on its way

-- some steps were done, and the lines were put
pub record KeptGoing (keeping : Keeps) (s : Setting) (old now : State) (told tells : Option (List ℕ)) : Type 0 where
  pub reports : List Report
  pub steps : KeptSteps keeping s old reports now
  pub text : Appends told tells (lines_of (trace_of reports))

pub going_none : (keeping : Keeps) (s : Setting) (b : State) (told : Option (List ℕ)) → KeptGoing keeping s b b told told
going_none keeping s b told = record { reports = []; steps = kept_none keeping s b; text = appends_none told }

-- the steps with one more
pub led_on : (keeping : Keeps) (s : Setting) (old m mid : State) (whats : List What) (told tells : Option (List ℕ))
    → (g : KeptGoing keeping s old m told tells)
    → (r : LedTo (kept_step keeping s m) m.step whats mid) → KeptSteps keeping s old (g.reports ++ r.report ∷ []) mid
led_on keeping s old m mid whats told tells g r = kept_on keeping s old m mid g.reports r.report g.steps r.went

-- one step more, and steps in which nothing is seen
pub going_on : (keeping : Keeps) (s : Setting) (old m mid new : State) (whats : List What) (told tells last : Option (List ℕ))
    → KeptGoing keeping s old m told tells
    → LedTo (kept_step keeping s m) m.step whats mid → Appends tells last (lines_of (items_at m.step whats)) → KeptRests keeping s mid new
    → KeptGoing keeping s old new told last
going_on keeping s old m mid new whats told tells last g r put rest =
    let is = ap lines_of (silent_join (g.reports ++ r.report ∷ []) rest.reports rest.silent)
    ∙ lines_on g.reports r.report (items_at m.step whats) r.items in
    record {
      reports = (g.reports ++ r.report ∷ []) ++ rest.reports;
      steps = kept_join keeping s old mid new (g.reports ++ r.report ∷ []) rest.reports
          (led_on keeping s old m mid whats told tells g r) rest.steps;
      text = subst (λ (l : List ℕ). Appends told last l) (sym is) (appends_both told tells last _ _ g.text put);
    }

-- a front of the step's lines was put
pub led_front : (keeping : Keeps) (s : Setting) (old m mid : State) (whats : List What) (told tells last : Option (List ℕ))
    → (g : KeptGoing keeping s old m told tells)
    → (r : LedTo (kept_step keeping s m) m.step whats mid) → AppendsFront tells last (lines_of (items_at m.step whats))
    → AppendsFront told last (lines_of (trace_of (g.reports ++ r.report ∷ [])))
led_front keeping s old m mid whats told tells last g r put =
    let is = lines_on g.reports r.report (items_at m.step whats) r.items in
    front_of told tells last (lines_of (trace_of g.reports)) (lines_of (items_at m.step whats)) [] _ g.text put
    (is ∙ ap (λ (l : List ℕ). lines_of (trace_of g.reports) ++ l) (sym (append-nil (lines_of (items_at m.step whats)))))

-- ---- the course

went_count : (keeping : Keeps) (s : Setting) (b mid : State) (now : Report) (r : steps.Result) → step_of s b b.set ≡ r
    → kept_by keeping b.set r ≡ Went now mid → mid.step ≡ b.step + 1
went_count keeping s b mid now (Went report new) is to =
    let same : mid.step ≡ new.step = cc in
    same ∙ counted_by s b new b.set report is
went_count keeping s b mid now (Halts stop) is to = absurd cc

-- each such step is counted
pub kept_counts : (keeping : Keeps) (s : Setting) (b mid : State) (now : Report) → kept_step keeping s b ≡ Went now mid
    → mid.step ≡ b.step + 1
kept_counts keeping s b mid now to = went_count keeping s b mid now (step_of s b b.set) refl to

went_on : (keeping : Keeps) (s : Setting) (k : ℕ) (b mid : State) (now : Report) → kept_step keeping s b ≡ Went now mid
    → kept_course keeping s (suc k) b ≡ behind (now ∷ []) (kept_course keeping s k mid)
unfolding kept_course
went_on keeping s k b mid now is = ap (λ (r : steps.Result). after_step b r (λ mid. kept_course keeping s k mid)) is

-- the course from a state up to a count of steps
abbrev pub up_to : Keeps → Setting → ℕ → State → Course
up_to keeping s n b = kept_course keeping s (n - b.step) b

-- steps are not counted back
pub never_back : (keeping : Keeps) (s : Setting) (old last : State) (reports : List Report) → KeptSteps keeping s old reports last
    → old.step ≤ last.step
unfolding KeptSteps
never_back keeping s old last [] h =
    let same : last.step ≡ old.step = ap (λ (b : State). b.step) h in
    omega (arith, same)
never_back keeping s old last (now ∷ later) h =
    let one = kept_counts keeping s old h.0 now h.1 in
    let more = never_back keeping s h.0 last later h.2 in
    omega (arith, one, more)

-- the course after some steps
pub steps_course : (keeping : Keeps) (s : Setting) (n : ℕ) (old last : State) (reports : List Report) → KeptSteps keeping s old reports last
    → last.step ≤ n → up_to keeping s n old ≡ behind reports (up_to keeping s n last)
unfolding KeptSteps
steps_course keeping s n old last [] h le = sym (ap (λ (b : State). up_to keeping s n b) h)
steps_course keeping s n old last (now ∷ later) h le =
    let one = kept_counts keeping s old h.0 now h.1 in
    let more = never_back keeping s h.0 last later h.2 in
    let left : n - old.step ≡ suc (n - h.0.step) = omega (arith, one, more, le) in
    ap (λ (k : ℕ). kept_course keeping s k old) left
    ∙ (went_on keeping s (n - h.0.step) old h.0 now h.1
    ∙ (ap (λ (c : Course). behind (now ∷ []) c) (steps_course keeping s n h.0 last later h.2 le)
    ∙ sym (behind_join (now ∷ []) later (up_to keeping s n last))))

pub bound_here : (keeping : Keeps) (s : Setting) (n : ℕ) (b : State) → b.step ≡ n
    → up_to keeping s n b ≡ record { reports = []; count = b.step; end = ends.Bound }
unfolding kept_course
bound_here keeping s n b at =
    let none : n - b.step ≡ 0 = omega (arith, at) in
    ap (λ (k : ℕ). kept_course keeping s k b) none

pub stops_here : (keeping : Keeps) (s : Setting) (n : ℕ) (b : State) (stop : Stop) → b.step < n → step_of s b b.set ≡ Halts stop
    → up_to keeping s n b ≡ record { reports = []; count = b.step; end = ends.Stopped stop }
unfolding kept_course
stops_here keeping s n b stop less is =
    let left : n - b.step ≡ suc (n - b.step - 1) = omega (arith, less) in
    ap (λ (k : ℕ). kept_course keeping s k b) left
    ∙ ap (λ (r : steps.Result). after_step b (kept_by keeping b.set r) (λ mid. kept_course keeping s (n - b.step - 1) mid)) is

-- what was put where a slice up to the count of steps pauses
pub slice_comes : (keeping : Keeps) (s : Setting) (n : ℕ) (old new : State) (told tells : Option (List ℕ)) (pause : Pause)
    → KeptSlice keeping s n old new told tells (Ok pause)
    → Comes (up_to keeping s n old) new.step (end_of pause) told tells
slice_comes keeping s n old new told tells Reached h =
    let le : h.last.step ≤ n = omega (arith, h.ends.0) in
    record {
      reports = h.reports;
      course = steps_course keeping s n old h.last h.reports h.steps le
          ∙ (ap (λ (c : Course). behind h.reports c) (bound_here keeping s n h.last h.ends.0)
          ∙ (ap (λ (l : List Report). record { reports = l; count = h.last.step; end = ends.Bound }) (append-nil h.reports)
          ∙ ap (λ (b : State). record { reports = h.reports; count = b.step; end = ends.Bound }) (sym h.ends.1)));
      text = h.text;
    }
slice_comes keeping s n old new told tells (Stopped stop) h =
    let le : h.last.step ≤ n = omega (arith, h.ends.0) in
    record {
      reports = h.reports;
      course = steps_course keeping s n old h.last h.reports h.steps le
          ∙ (ap (λ (c : Course). behind h.reports c) (stops_here keeping s n h.last stop h.ends.0 h.ends.2)
          ∙ (ap (λ (l : List Report). record { reports = l; count = h.last.step; end = ends.Stopped stop }) (append-nil h.reports)
          ∙ ap (λ (k : ℕ). record { reports = h.reports; count = k; end = ends.Stopped stop }) (sym h.ends.1)));
      text = h.text;
    }

-- the sink failed in such a slice
pub slice_failed : (keeping : Keeps) (s : Setting) (n : ℕ) (old new : State) (told tells : Option (List ℕ)) (failed : Failed)
    (before now : ℕ) → KeptSlice keeping s n old new told tells (Err failed) → Rose before now
    → CourseAs (up_to keeping s n old) told tells before now (Err fault.Write)
slice_failed keeping s n old new told tells failed before now h rose =
    let c = up_to keeping s n h.last in
    let whole = ap course_text (steps_course keeping s n old h.last h.reports h.steps h.ends) ∙ text_behind h.reports c in (
      front_of told told tells [] (lines_of (trace_of h.reports)) (lines_of (trace_of c.reports) ++ end_line c.count c.end) _
          (appends_none told) h.text whole,
      rose,
    )

-- ---- whole runs

-- a run of the course from the start is the run with a TLB
pub buffered_answered : (image : Image) (script : Events) (frames n : ℕ) (first : State) (old new : Option (List ℕ)) (before now : ℕ)
    (result : Result Ended RunFault)
    → need image ≤ frames → first.step ≡ 0 → first ≡ boot (bare image script frames)
    → CourseAs (up_to in_buffer (bare image script frames) n first) old new before now result
    → CourseAnswers image frames (buffered_run image script frames n) old new before now result
buffered_answered image script frames n first old new before now result fits start is h =
    let left : n - first.step ≡ n = omega (arith, start) in
    course_answered image frames (buffered_run image script frames n) old new before now result fits
    (subst (λ (b : State). CourseAs (kept_course in_buffer (bare image script frames) n b) old new before now result) is
    (subst (λ (k : ℕ). CourseAs (kept_course in_buffer (bare image script frames) k first) old new before now result) left h))
  where
    course_answered : (image : Image) (frames : ℕ) (c : Course) (old new : Option (List ℕ)) (before now : ℕ)
        (result : Result Ended RunFault)
        → need image ≤ frames → CourseAs c old new before now result → CourseAnswers image frames c old new before now result
    course_answered image frames c old new before now (Ok ended) fits h = (fits, h)
    course_answered image frames c old new before now (Err fault.Write) fits h = (fits, h)
    course_answered image frames c old new before now (Err (fault.TooSmall small)) fits h = absurd h
    course_answered image frames c old new before now (Err fault.Memory) fits h = absurd h

-- a run that does not begin writes nothing
pub course_unbegun : (image : Image) (frames : ℕ) (c : Course) (old : Option (List ℕ)) (before : ℕ) (why : RunFault)
    → NotBegun image frames why → CourseAnswers image frames c old old before before (Err why)
course_unbegun image frames c old before fault.Write h = absurd h
course_unbegun image frames c old before (fault.TooSmall small) h = (h.0, h.1, refl, refl)
course_unbegun image frames c old before fault.Memory h = (refl, refl)
