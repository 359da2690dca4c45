-- The meaning of `run`, on either machine.
use Rattle.std.proofs.Common.{◌≡◌, ◌⊎◌, inl, inr, ℕ, ◌<◌, List, Option, Result, Ok, Err, refl, sym, ap, subst, ◌∙◌}
use Rattle.pv_io.specs.Causes.{Rose}
use Rattle.pv_io.specs.Files.{FileMap}
use Rattle.pv_io.specs.Sink.{Appends, AppendsFront}
use Rattle.board.specs.Scripts.{Events}
use Rattle.image_check.specs.Image.{Image}
use Rattle.image_load.specs.Boot.{need}
use Rattle.image_load.specs.declared.boot.TooSmall.{TooSmall}
use Rattle.image_load.specs.declared.fault.RunFault.{RunFault}
use Rattle.image_load.specs.declared.fault.RunFault.TheVariants as fault
use Rattle.run_trace.specs.declared.items.End.{End}
use Rattle.run_trace.specs.declared.items.End.TheVariants.{Bound, Stopped}
use Rattle.run_trace.specs.declared.items.Ended.{Ended}
use Rattle.run_trace.specs.Text.{text_of}
use Rattle.machine_model.specs.State.{wedge}
use Rattle.machine_model.specs.Step.{Report}
use Rattle.machine_model.specs.Run.{stopping, trace_of}
use Rattle.bare_machine.specs.Runs.{HasRun}
use Rattle.bare_machine.specs.FreshRuns.{Course, course_text}
use Rattle.bare_machine.specs.FreshTexts.{CourseAnswers}
use Rattle.bare_machine.specs.Buffered.{buffered_run}
use Rattle.bare_machine.proofs.KeptRuns.{each_buffered_run_runs}
use Rattle.wedge_core.specs.Counts.{Counts}
use Rattle.wedge_core.specs.Surroundings.{Around}
use Rattle.wedge_core.proofs.AnsweredBy.{WedgeAnswers}
use Rattle.pv_build.specs.Lines.{too_small_line}
use Rattle.pv_build.specs.Telling.{Says, Whole, Cut, ToldAs}
use Rattle.pv_build.specs.Statuses.{status_of}
use Rattle.pv_build.specs.Images.{HasImage}
use Rattle.pv_build.specs.Scripts.{HasScript, NoRun, FindsRun}
use Rattle.pv_build.specs.declared.status.Status.{Status}
use Rattle.pv_build.specs.declared.status.Status.TheVariants as status
use Rattle.pv_tasks.specs.Outside.{Outside}
use Rattle.pv_tasks.specs.Outcome.{Outcome, HostedRun, HasEnded, HostDid, refused, ended, ended_on_host}
use Rattle.pv_tasks.specs.Running.{RunsBare, RunsPatched, RunsOn, Ran, Small, Reads, Unread, Runs, run_task}
use Rattle.pv_tasks.specs.Answering.{AnswersOn}
use Rattle.pv_tasks.specs.Tasks.{Task, Means}
use Rattle.pv_words.specs.declared.words.RunWords.{RunWords}
use Rattle.pv_words.specs.declared.mode.RunMode.{RunMode}
use Rattle.pv_words.specs.declared.mode.RunMode.TheVariants as mode
use Rattle.pv_tasks.proofs.Around.{around_of}
use Rattle.pv_tasks.specs.Faulting.{PutsEnd}
use Rattle.pv_tasks.proofs.Deliveries.{says_told}
use Rattle.pv_tasks.proofs.Faults.{puts_said}
use Rattle.pv_tasks.proofs.Works.{IsEnd, IsTold, AreEnds, AreTold, ended_is_end, frames_all, WithFrames, with_both}

-- ---- one run

-- the same bytes were taken
pub appends_on : (old mid new : Option (List ℕ)) (text : List ℕ) → new ≡ mid → Appends old mid text → Appends old new text
appends_on old mid new text same h = subst (λ (t : Option (List ℕ)). Appends old t text) (sym same) h

pub front_on : (old mid new : Option (List ℕ)) (text : List ℕ) → new ≡ mid → AppendsFront old mid text → AppendsFront old new text
front_on old mid new text same h = subst (λ (t : Option (List ℕ)). AppendsFront old t text) (sym same) h

pub rose_on : (before mid now : ℕ) → now ≡ mid → Rose before mid → Rose before now
rose_on before mid now same h = subst (λ (n : ℕ). Rose before n) (sym same) h

pub says_from : (line : List ℕ) (old mid new : Option (List ℕ)) (before middle now : ℕ) (st : Status) → mid ≡ old → middle ≡ before
    → Says line status.Refused mid new middle now st → Says line status.Refused old new before now st
says_from line old mid new before middle now st same count h =
    subst (λ (n : ℕ). Says line status.Refused old new n now st) count
    (subst (λ (t : Option (List ℕ)). Says line status.Refused t new middle now st) same h)

-- A run's text was put, or a refusal's line, and the host has done what is its part, unless no memory was found.
abbrev pub RanAs : (Outcome → Type 0) → Around → List ℕ → Status → Type 0
RanAs runs a memory result =
    ((w : Outcome) × runs w × Says w.text w.status a.taken a.taken_after a.faults a.faults_after result
    × (result ≡ w.status → HostDid w.hosted a.counts a.counts_after memory))
    ⊎ ((result ≡ status.Memory) × (a.taken_after ≡ a.taken) × (a.counts_after ≡ a.counts) × (a.faults_after ≡ a.faults))

-- the line of memory that is too small was put
too_small : (ran : Outcome → Type 0) (image : Image) (frames : ℕ) (old new : Option (List ℕ)) (before now : ℕ) (c c2 : Counts)
    (memory : List ℕ) (small : TooSmall) (st : Status)
    → frames < need image → small ≡ record { need = need image; have = frames } → c2 ≡ c
    → Says (too_small_line small.need small.have) status.Refused old new before now st
    → RanAs (RunsOn ran image frames) (around_of old new before now c c2) memory st
too_small ran image frames old new before now c c2 memory small st lt is none said =
    inl (
      refused (too_small_line small.need small.have),
      Small lt (ap (λ (s : TooSmall). refused (too_small_line s.need s.have)) is),
      said,
      λ end. none,
    )

-- what the bare machine answered was reported
ran_bare : (image : Image) (events : Events) (frames n : ℕ) (old mid new : Option (List ℕ)) (before middle now : ℕ)
    (r : Result Ended RunFault) (c : Counts) (memory : List ℕ) (st : Status)
    → CourseAnswers image frames (buffered_run image events frames n) old mid before middle r → ToldAs r mid new middle now st
    → RanAs (RunsOn (RunsBare frames n image events) image frames) (around_of old new before now c c) memory st
ran_bare image events frames n old mid new before middle now (Ok e) c memory st h told =
    let course : Course = buffered_run image events frames n in
    let end_is : e.end ≡ course.end = ap (λ (x : Ended). x.end) h.1.0 in
    inl (
      ended e.end (course_text course),
      Ran h.0 (record {
        text = course_text course;
        count = course.count;
        end = e.end;
        run = subst (λ (x : End). HasRun image events frames n (course_text course) course.count x) (sym end_is)
            (each_buffered_run_runs image events frames n h.0);
        text_is = refl;
        count_is = refl;
        end_is = end_is;
        comes = refl;
      }),
      Whole told.0 (appends_on old mid new (course_text course) told.1 h.1.1) (told.2 ∙ h.1.2),
      λ end. refl,
    )
ran_bare image events frames n old mid new before middle now (Err fault.Write) c memory st h told =
    let course : Course = buffered_run image events frames n in
    inl (
      ended course.end (course_text course),
      Ran h.0 (record {
        text = course_text course;
        count = course.count;
        end = course.end;
        run = each_buffered_run_runs image events frames n h.0;
        text_is = refl;
        count_is = refl;
        end_is = refl;
        comes = refl;
      }),
      Cut told.0 (front_on old mid new (course_text course) told.1 h.1.0) (rose_on before middle now told.2 h.1.1),
      λ end. refl,
    )
ran_bare image events frames n old mid new before middle now (Err (fault.TooSmall small)) c memory st h (inl said) =
    too_small (RunsBare frames n image events) image frames old new before now c c memory small st h.0 h.1 refl
    (says_from (too_small_line small.need small.have) old mid new before middle now st h.2 h.3 said)
ran_bare image events frames n old mid new before middle now (Err (fault.TooSmall small)) c memory st h (inr none) =
    inr (none.0, none.1 ∙ h.2, refl, none.2 ∙ h.3)
ran_bare image events frames n old mid new before middle now (Err fault.Memory) c memory st h told =
    inr (told.0, told.1 ∙ h.0, refl, told.2 ∙ h.1)

-- a status of no run
pub no_write : (end : End) → status.WriteFault ≡ status_of end → ⊥
no_write Bound is = cc
no_write (Stopped stop) is = cc

-- the text of a run, by its last state
pub text_at : (reports : List Report) (text : List ℕ) (count last : ℕ) (end : End) → text ≡ text_of (trace_of reports) count end
    → count ≡ last → text ≡ text_of (trace_of reports) last end
text_at reports text count last end is same = is ∙ ap (λ (n : ℕ). text_of (trace_of reports) n end) same

-- what was answered of a patched run was reported
ran_patched : (image : Image) (events : Events) (frames n : ℕ) (old mid new : Option (List ℕ)) (before middle now : ℕ)
    (r : Result Ended RunFault) (c c2 : Counts) (memory : List ℕ) (st : Status)
    → WedgeAnswers image events frames n 512 old mid before middle c c2 memory r → ToldAs r mid new middle now st
    → RanAs (RunsOn (RunsPatched frames n image events) image frames) (around_of old new before now c c2) memory st
ran_patched image events frames n old mid new before middle now (Ok e) c c2 memory st h told =
    let p = h.1 in
    let stopped = stopping (wedge image events frames) n p.last e.end p.run.ends in
    let run : HostedRun = record { setting = wedge image events frames; sets = p.sets; reports = p.reports; last = p.last; end = e.end } in
    inl (
      ended_on_host run stopped,
      Ran h.2 (record { sets = p.sets; reports = p.reports; last = p.last; end = e.end; run = p.run; comes = refl }),
      Whole told.0 (appends_on old mid new (ended_on_host run stopped).text told.1
          (subst (λ (t : List ℕ). Appends old mid t) (text_at p.reports h.0 e.steps p.last.step e.end p.text_is p.count_is) h.4)) (told.2
          ∙ h.5),
      λ end. (p.counts, p.memory_is, p.kept refl),
    )
ran_patched image events frames n old mid new before middle now (Err fault.Write) c c2 memory st h told =
    let g = h.4 in
    let stopped = stopping (wedge image events frames) n g.last h.2 g.run.ends in
    let run : HostedRun = record { setting = wedge image events frames; sets = g.sets; reports = g.reports; last = g.last; end = h.2 } in
    inl (
      ended_on_host run stopped,
      Ran h.3 (record { sets = g.sets; reports = g.reports; last = g.last; end = h.2; run = g.run; comes = refl }),
      Cut told.0 (front_on old mid new (ended_on_host run stopped).text told.1
          (subst (λ (t : List ℕ). AppendsFront old mid t) (text_at g.reports h.0 h.1 g.last.step h.2 g.text_is g.count_is) h.5)) (rose_on
          before middle now told.2 h.6),
      λ end. absurd (no_write h.2 (sym told.0 ∙ end)),
    )
ran_patched image events frames n old mid new before middle now (Err (fault.TooSmall small)) c c2 memory st h (inl said) =
    too_small (RunsPatched frames n image events) image frames old new before now c c2 memory small st h.0 h.1 h.2.2
    (says_from (too_small_line small.need small.have) old mid new before middle now st h.2.0 h.2.1 said)
ran_patched image events frames n old mid new before middle now (Err (fault.TooSmall small)) c c2 memory st h (inr none) =
    inr (none.0, none.1 ∙ h.2.0, h.2.2, none.2 ∙ h.2.1)
ran_patched image events frames n old mid new before middle now (Err fault.Memory) c c2 memory st h told =
    inr (told.0, told.1 ∙ h.0, h.2, told.2 ∙ h.1)

-- the outcomes of runs on a machine
abbrev pub runs_of : RunMode → ℕ → ℕ → Image → Events → Outcome → Type 0
runs_of mode.Bare frames n image events w = RunsBare frames n image events w
runs_of mode.Wedge frames n image events w = RunsPatched frames n image events w

-- what was answered on a machine was reported
pub ran_on : (on : RunMode) (image : Image) (events : Events) (frames n : ℕ) (old mid new : Option (List ℕ)) (before middle now : ℕ)
    (r : Result Ended RunFault) (c c2 : Counts) (memory : List ℕ) (st : Status)
    → AnswersOn on frames n image events (around_of old mid before middle c c2) memory r → ToldAs r mid new middle now st
    → RanAs (RunsOn (runs_of on frames n image events) image frames) (around_of old new before now c c2) memory st
ran_on mode.Bare image events frames n old mid new before middle now r c c2 memory st h told =
    subst (λ (x : Counts). RanAs (RunsOn (RunsBare frames n image events) image frames) (around_of old new before now c x) memory st)
    (sym h.1)
    (ran_bare image events frames n old mid new before middle now r c memory st h.0 told)
ran_on mode.Wedge image events frames n old mid new before middle now r c c2 memory st h told =
    ran_patched image events frames n old mid new before middle now r c c2 memory st h told

-- ---- a put that failed

-- it ends the work as a write fault
pub ran_puts : (runs : Outcome → Type 0) (a : Around) (memory : List ℕ) (st : Status) → RanAs runs a memory st
    → PutsEnd a.faults a.faults_after st
ran_puts runs a memory st (inl (w, h, said, does)) = puts_said w.text w.status a.taken a.taken_after a.faults a.faults_after st said
ran_puts runs a memory st (inr (is, none, still, count)) = λ write. count

pub run_puts : (on : RunMode) (image : Image) (events : Events) (frames n : ℕ) (old mid new : Option (List ℕ)) (before middle now : ℕ)
    (r : Result Ended RunFault) (c c2 : Counts) (memory : List ℕ) (st : Status)
    → AnswersOn on frames n image events (around_of old mid before middle c c2) memory r → ToldAs r mid new middle now st
    → PutsEnd before now st
run_puts on image events frames n old mid new before middle now r c c2 memory st h told =
    ran_puts (RunsOn (runs_of on frames n image events) image frames) (around_of old new before now c c2) memory st
    (ran_on on image events frames n old mid new before middle now r c c2 memory st h told)

-- ---- the outcomes of runs

pub has_ended : (end : End) → HasEnded (status_of end)
has_ended Bound = tt
has_ended (Stopped stop) = tt

pub bare_ends : (frames n : ℕ) → AreEnds (RunsBare frames n)
bare_ends frames n image events w h = subst (λ (v : Outcome). HasEnded v.status) (sym h.comes) (has_ended h.end)

pub patched_ends : (frames n : ℕ) → AreEnds (RunsPatched frames n)
patched_ends frames n image events w h = subst (λ (v : Outcome). HasEnded v.status) (sym h.comes) (has_ended h.end)

pub bare_told : (frames n : ℕ) → AreTold (RunsBare frames n)
bare_told frames n image events w h = subst IsTold (sym h.comes) refl

pub patched_told : (frames n : ℕ) → AreTold (RunsPatched frames n)
patched_told frames n image events w h = subst IsTold (sym h.comes) refl

runs_told : (runs : Image → Events → Outcome → Type 0) (image : Image) (events : Events) (frames : ℕ) (w : Outcome) → AreTold runs
    → RunsOn (runs image events) image frames w → IsTold w
runs_told runs image events frames w are h = frames_all IsTold runs frames image events w (λ line. refl) are h

runs_end : (runs : Image → Events → Outcome → Type 0) (image : Image) (events : Events) (frames : ℕ) (w : Outcome) → AreEnds runs
    → RunsOn (runs image events) image frames w → IsEnd w.status
runs_end runs image events frames w are h =
    frames_all (λ (v : Outcome). IsEnd v.status) runs frames image events w (λ line. tt) (λ i e v r. ended_is_end v.status (are i e v r)) h

-- ---- with the files

-- there is nothing to run
pub no_run : (goes : Image → Events → Outcome → Type 0) (files : Option FileMap) (image script : List ℕ) (line : List ℕ)
    → NoRun files image script line → Reads goes files image script (refused line)
no_run goes files image script line none = Unread line none refl

-- a run of the files' image and script
pub run_means : (task : Task) (runs : Image → Events → Outcome → Type 0) (image script : List ℕ) (frames : ℕ) (o : Outside) (st : Status)
    (i : Image) (s : Events) → AreEnds runs → AreTold runs
    → ((w : Outcome) → Runs runs frames o.before.files image script w → task.gives o.before.files w) → HasImage o.before.files image i
    → HasScript o.before.files script s → o.after.files ≡ o.before.files
    → RanAs (RunsOn (runs i s) i frames)
    (around_of o.before.taken o.after.taken o.before.puts o.after.puts o.before.completed o.after.completed) o.after.memory
    st → Means task o st
run_means task runs image script frames o st i s are told gives has has_script same (inl (w, h, said, does)) =
    says_told task o w st (runs_end runs i s frames w are h) (runs_told runs i s frames w told h)
    (gives w (with_both (WithFrames runs frames) o.before.files image script i s w has has_script h)) same does said
run_means task runs image script frames o st i s are told gives has has_script same (inr (is, none, still, count)) =
    subst (λ (x : Status). Means task o x) (sym is) (same, inl (none, still))

-- ---- the task of a run

pub ends_of : (on : RunMode) (frames n : ℕ) → AreEnds (runs_of on frames n)
ends_of mode.Bare frames n = bare_ends frames n
ends_of mode.Wedge frames n = patched_ends frames n

pub told_of : (on : RunMode) (frames n : ℕ) → AreTold (runs_of on frames n)
told_of mode.Bare frames n = bare_told frames n
told_of mode.Wedge frames n = patched_told frames n

pub gives_run : (on : RunMode) (words : RunWords) (files : Option FileMap) (w : Outcome)
    → Runs (runs_of on words.frames words.n) words.frames files words.image.now words.script.now w
    → (run_task on words.image.now words.script.now words.frames words.n).gives files w
gives_run mode.Bare words files w h = h
gives_run mode.Wedge words files w h = h

pub finds_run : (on : RunMode) (words : RunWords) (files : Option FileMap)
    → (run_task on words.image.now words.script.now words.frames words.n).finds files → FindsRun files words.image.now words.script.now
finds_run mode.Bare words files h = h
finds_run mode.Wedge words files h = h
