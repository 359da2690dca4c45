-- The course by the choices that a run's notes report is that run.
use Rattle.std.proofs.Common.{◌≡◌, ℕ, suc, ◌+◌, ◌-◌, ◌<◌, ◌≤◌, ◌^◌, Bool, true, false, cond, ◌||◌, List, [], ◌∷◌, ◌++◌, Option, Some, None, Result, Ok, refl, sym, ap, ◌∙◌, arith, inl, inr}
use Rattle.std.specs.Prelude.{◌==◌}
use Rattle.std.specs.List.{list_any}
use Rattle.std.proofs.lemmas.List.{append-nil}
use Rattle.std.specs.FinMap.{get, empty, remove, get-empty, same_map, nat_cmp-IsAntisymmetric}
use Rattle.std.specs.Ordering.{nat_cmp}
use Rattle.std.proofs.lemmas.Bool.Decides.{eqb_tells}
use Rattle.std.proofs.lemmas.Cmp.{nat_cmp_total}
use Rattle.ia32_types.specs.declared.stop.Stop.{Stop}
use Rattle.paging.specs.MonitorStops.{is_extra_stop}
use Rattle.paging.proofs.WithEntry.{get_with_same, get_with_other}
use Rattle.board.specs.Scripts.{Events}
use Rattle.image_check.specs.Image.{Image}
use Rattle.run_trace.specs.Notes.{Note, emptied_at, dropped_at}
use Rattle.run_trace.specs.declared.items.End.{End}
use Rattle.run_trace.specs.declared.items.End.TheVariants.{Bound, Stopped}
use Rattle.run_trace.specs.Text.{lines_of, text_of}
use Rattle.machine_model.specs.State.{Setting, State, boot, wedge}
use Rattle.machine_model.specs.OnBare.{on_bare}
use Rattle.machine_model.specs.Step as steps
use Rattle.machine_model.specs.Step.{Report, Went, Halts, step_of}
use Rattle.machine_model.specs.Run.{Set, Steps, trace_of}
use Rattle.machine_model.specs.Taken.{Taken, steps_by}
use Rattle.machine_model.specs.Notes.{AreTold, is_emptied, without, set_told}
use Rattle.machine_model.specs.Agreement.{StepsAgree}
use Rattle.machine_model.proofs.Counted.{counted_by}
use Rattle.machine_model.proofs.Runs.{taken_first}
use Rattle.machine_model.proofs.Works.{halts_agrees, went_agrees}
use Rattle.trace_check.specs.declared.list.Choice.{Choice}
use Rattle.trace_check.specs.declared.answer.CourseEnd.TheVariants.{Ended}
use Rattle.trace_check.specs.declared.answer.Verdict.TheVariants.{Yes, YesBefore}
use Rattle.trace_check.specs.ChoicesTold.{choices_of}
use Rattle.trace_check.specs.Lines.{lines, last_of, before_last, differing, steps_told, stop_told}
use Rattle.trace_check.specs.Courses.{Course, chosen, after_step, after_choices, course, course_of}
use Rattle.trace_check.specs.Judged.{unless_differs, judged_whole, judged_before, judged_by, judged}
use Rattle.trace_check.specs.RunLaws.{NotesAreJudged}
use Rattle.trace_check.proofs.Differing.{none_differs}
use Rattle.trace_check.proofs.Telling.{steps_back, told_of, stop_back, text_last, text_before}

-- ---- what the notes' choices make is the set that the notes report

abbrev none_set : Set
none_set = empty

none_removed : (page : ℕ) → remove none_set page ≡ none_set
none_removed page = same_map nat_cmp_total nat_cmp-IsAntisymmetric (remove none_set page) none_set (λ q. elim (eqb_tells q page) [
  | inl t ↦ ap (get (remove none_set page)) t.1 ∙ get_with_same none_set page None ∙ sym (get-empty nat_cmp q)
  | inr f ↦ get_with_other none_set page None q f.1
])

none_without : (step : ℕ) (notes : List Note) → without step empty notes ≡ empty
none_without step [] = refl
none_without step (emptied_at s ∷ notes) = none_without step notes
none_without step (dropped_at s page ∷ notes) = ap (λ (x : Set). without step x notes) (by (s == step)) ∙ none_without step notes
  where
    by : (t : Bool) → cond t (remove empty page) empty ≡ none_set
    by true = none_removed page
    by false = refl

none_told : (step : ℕ) (notes : List Note) → set_told notes step empty ≡ none_set
none_told step notes = by (list_any (is_emptied step) notes)
  where
    by : (t : Bool) → cond t none_set (without step none_set notes) ≡ none_set
    by true = refl
    by false = none_without step notes

abbrev ok_of : Set → Result Set ℕ
ok_of set = Ok set

pub chosen_told : (s : Setting) (b : State) (notes : List Note) (at : ℕ) (set : Set)
    → chosen s b at (choices_of notes) set ≡ Ok (set_told notes b.step set)
unfolding chosen
chosen_told s b [] at set = refl
chosen_told s b (emptied_at step ∷ notes) at set = by (λ x. chosen_told s b notes (at + 1) x) (step == b.step)
  where
    by : ((x : Set) → chosen s b (at + 1) (choices_of notes) x ≡ Ok (set_told notes b.step x)) → (t : Bool)
        → cond t (chosen s b (at + 1) (choices_of notes) empty) (chosen s b (at + 1) (choices_of notes) set) ≡ Ok
        (cond (t || list_any (is_emptied b.step) notes) empty (without b.step set notes))
    by later true = later empty ∙ ap ok_of (none_told b.step notes)
    by later false = later set
chosen_told s b (dropped_at step page ∷ notes) at set = by (λ x. chosen_told s b notes (at + 1) x) (step == b.step)
  where
    by : ((x : Set) → chosen s b (at + 1) (choices_of notes) x ≡ Ok (set_told notes b.step x)) → (t : Bool)
        → cond t (chosen s b (at + 1) (choices_of notes) (remove set page)) (chosen s b (at + 1) (choices_of notes) set) ≡ Ok
        (set_told notes b.step (cond t (remove set page) set))
    by later true = later (remove set page)
    by later false = later set

-- ---- a run's steps, and then the course from its last state

-- so many steps more than there are sets
abbrev and_more : List Set → ℕ → ℕ
and_more [] k = k
and_more (set ∷ sets) k = suc (and_more sets k)

abbrev reports_first : List Report → Course → Course
reports_first reports c = record { reports = reports ++ c.reports; count = c.count; end = c.end }

first_told : (m : Setting) (b after : State) (set : Set) (sets : List Set) (report : Report) (notes : List Note)
    → step_of m b set ≡ Went report after → AreTold m b (set ∷ sets) notes → set ≡ set_told notes b.step b.set
first_told m b after set sets report notes is told =
    told.each [] (record { before = b; set = set; report = report; after = after }) (steps_by m after sets)
    (taken_first m b after set sets report is)

later_told : (m : Setting) (b after : State) (set : Set) (sets : List Set) (report : Report) (notes : List Note)
    → step_of m b set ≡ Went report after → AreTold m b (set ∷ sets) notes → AreTold m after sets notes
later_told m b after set sets report notes is told = record {
  each = λ earlier now later e.
      let x : Taken = record { before = b; set = set; report = report; after = after } in
      told.each (x ∷ earlier) now later (taken_first m b after set sets report is ∙ ap (λ (l : List Taken). x ∷ l) e);
}

-- where the choices of a step are made and it goes on
one_first : (s : Setting) (list : List Choice) (k : ℕ) (b mid : State) (set : Set) (now : Report) → chosen s b 0 list b.set ≡ Ok set
    → step_of s b set ≡ Went now mid → course s list (suc k) b ≡ reports_first (now ∷ []) (course s list k mid)
unfolding course
one_first s list k b mid set now choices is =
    ap (λ (r : Result Set ℕ). after_choices s b r (λ x. course s list k x)) choices
    ∙ ap (λ (r : steps.Result). after_step b.step r (λ x. course s list k x)) is

halts_first : (s : Setting) (list : List Choice) (k : ℕ) (b : State) (set : Set) (stop : Stop) → chosen s b 0 list b.set ≡ Ok set
    → step_of s b set ≡ Halts stop → course s list (suc k) b ≡ record { reports = []; count = b.step; end = Ended (Stopped stop) }
unfolding course
halts_first s list k b set stop choices is =
    ap (λ (r : Result Set ℕ). after_choices s b r (λ x. course s list k x)) choices
    ∙ ap (λ (r : steps.Result). after_step b.step r (λ x. course s list k x)) is

course_none : (s : Setting) (list : List Choice) (b : State)
    → course s list 0 b ≡ record { reports = []; count = b.step; end = Ended Bound }
unfolding course
course_none s list b = refl

steps_first : StepsAgree → (m : Setting) (notes : List Note) (sets : List Set) (old last : State) (reports : List Report) (k : ℕ)
    → Steps m old sets reports last → AreTold m old sets notes
    → course (on_bare m) (choices_of notes) (and_more sets k) old ≡ reports_first reports (course (on_bare m) (choices_of notes) k last)
unfolding Steps
steps_first law m notes [] old last reports k run told =
    ap (course (on_bare m) (choices_of notes) k) (sym run.1)
    ∙ ap (λ (l : List Report). reports_first l (course (on_bare m) (choices_of notes) k last)) (sym run.0)
steps_first law m notes (set ∷ sets) old last reports k run told =
    let s = on_bare m in
    let list = choices_of notes in
    let is = first_told m old run.0 set sets run.1 notes run.4 told in
    let choices : chosen s old 0 list old.set ≡ Ok set = chosen_told s old notes 0 old.set ∙ ap ok_of (sym is) in
    one_first s list (and_more sets k) old run.0 set run.1 choices (went_agrees law m old run.0 set run.1 run.4)
    ∙ ap (reports_first (run.1 ∷ []))
    (steps_first law m notes sets run.0 last run.2 k run.5 (later_told m old run.0 set sets run.1 notes run.4 told))
    ∙ ap (λ (l : List Report). reports_first l (course s list k last)) (sym run.6)

steps_counted : (m : Setting) (sets : List Set) (old last : State) (reports : List Report) (k : ℕ) → Steps m old sets reports last
    → old.step + and_more sets k ≡ last.step + k
unfolding Steps
steps_counted m [] old last reports k run = ap (λ (b : State). b.step + k) (sym run.1)
steps_counted m (set ∷ sets) old last reports k run =
    let one = counted_by m old run.0 set run.1 run.4 in
    omega (arith, one, steps_counted m sets run.0 last run.2 k run.5)

-- ---- the law

known_course : StepsAgree → (m : Setting) (notes : List Note) (sets : List Set) (old last : State) (reports : List Report) (k n : ℕ)
    → Steps m old sets reports last → AreTold m old sets notes → old.step ≡ 0 → last.step + k ≡ n
    → course (on_bare m) (choices_of notes) n old ≡ reports_first reports (course (on_bare m) (choices_of notes) k last)
known_course law m notes sets old last reports k n run told begin total =
    let same : and_more sets k ≡ n = omega (arith, begin, total, steps_counted m sets old last reports k run) in
    ap (λ (j : ℕ). course (on_bare m) (choices_of notes) j old) (sym same) ∙ steps_first law m notes sets old last reports k run told

abbrev ended_at : List Report → ℕ → End → Course
ended_at reports count end = record { reports = reports; count = count; end = Ended end }

to_end : (c d : Course) (reports : List Report) (count : ℕ) (end : End) → c ≡ reports_first reports d → d ≡ ended_at [] count end
    → c ≡ ended_at reports count end
to_end c d reports count end is at =
    is ∙ ap (reports_first reports) at ∙ ap (λ (l : List Report). ended_at l count end) (append-nil reports)

whole_yes : (image : Image) (script : Events) (frames n : ℕ) (list : List Choice) (reports : List Report) (count : ℕ) (end : End)
    → course_of image script frames n list ≡ ended_at reports count end
    → stop_told n (last_of (lines (text_of (trace_of reports) count end))) ≡ None
    → judged image script frames n list (text_of (trace_of reports) count end) ≡ Yes
unfolding judged
whole_yes image script frames n list reports count end is none =
    let text = text_of (trace_of reports) count end in
    ap (judged_by image script frames n list text) none
    ∙ ap (λ (c : Course). judged_whole text c c.end) is
    ∙ ap (λ (o : Option ℕ). unless_differs o Yes) (none_differs 1 (lines text))

before_yes : (image : Image) (script : Events) (frames n : ℕ) (list : List Choice) (reports : List Report) (count : ℕ) (stop : Stop)
    → course_of image script frames count list ≡ ended_at reports count Bound
    → stop_told n (last_of (lines (text_of (trace_of reports) count (Stopped stop)))) ≡ Some stop
    → steps_told (last_of (lines (text_of (trace_of reports) count (Stopped stop)))) ≡ count
    → before_last (lines (text_of (trace_of reports) count (Stopped stop))) ≡ lines (lines_of (trace_of reports))
    → judged image script frames n list (text_of (trace_of reports) count (Stopped stop)) ≡ YesBefore stop
unfolding judged
before_yes image script frames n list reports count stop is some steps front =
    let text = text_of (trace_of reports) count (Stopped stop) in
    let all = lines (lines_of (trace_of reports)) in
    ap (judged_by image script frames n list text) some
    ∙ ap (λ (k : ℕ). judged_before stop text (course_of image script frames k list) (course_of image script frames k list).end) steps
    ∙ ap (λ (c : Course). judged_before stop text c c.end) is
    ∙ ap (λ (l : List (List ℕ)). unless_differs (differing 1 all l) (YesBefore stop)) front
    ∙ ap (λ (o : Option ℕ). unless_differs o (YesBefore stop)) (none_differs 1 all)

told_last : (n : ℕ) (reports : List Report) (count : ℕ) (end : End) → count ≤ n → n ≤ 2 ^ 40
    → stop_told n (last_of (lines (text_of (trace_of reports) count end))) ≡ told_of end
told_last n reports count end le bound =
    let lt : count < 2 ^ 64 = omega arith in
    ap (stop_told n) (text_last (trace_of reports) count end lt) ∙ stop_back n count end le lt

steps_last : (reports : List Report) (count : ℕ) (end : End) → count < 2 ^ 64
    → steps_told (last_of (lines (text_of (trace_of reports) count end))) ≡ count
steps_last reports count end lt = ap steps_told (text_last (trace_of reports) count end lt) ∙ steps_back count end lt

bound_case : StepsAgree → (image : Image) (script : Events) (frames n : ℕ) (sets : List Set) (reports : List Report) (last : State)
    (notes : List Note) → n ≤ 2 ^ 40
    → Steps (wedge image script frames) (boot (wedge image script frames)) sets reports last
    → AreTold (wedge image script frames) (boot (wedge image script frames)) sets notes → last.step ≡ n
    → judged image script frames n (choices_of notes) (text_of (trace_of reports) last.step Bound) ≡ Yes
bound_case law image script frames n sets reports last notes bound run told at =
    let m = wedge image script frames in
    let total : last.step + 0 ≡ n = omega (arith, at) in
    let le : last.step ≤ n = omega (arith, at) in
    whole_yes image script frames n (choices_of notes) reports last.step Bound
    (to_end (course_of image script frames n (choices_of notes)) (course (on_bare m) (choices_of notes) 0 last) reports last.step Bound
    (known_course law m notes sets (boot m) last reports 0 n run told refl total) (course_none (on_bare m) (choices_of notes) last))
    (told_last n reports last.step Bound le bound)

stop_case : StepsAgree → (image : Image) (script : Events) (frames n k : ℕ) (sets : List Set) (reports : List Report) (last : State)
    (notes : List Note) (stop : Stop) (extra : Bool) → n ≤ 2 ^ 40 → is_extra_stop stop ≡ extra
    → Steps (wedge image script frames) (boot (wedge image script frames)) sets reports last
    → AreTold (wedge image script frames) (boot (wedge image script frames)) sets notes → last.step + suc k ≡ n
    → step_of (wedge image script frames) last (set_told notes last.step last.set) ≡ Halts stop
    → judged image script frames n (choices_of notes) (text_of (trace_of reports) last.step (Stopped stop)) ≡ cond extra
    (YesBefore stop) Yes
stop_case law image script frames n k sets reports last notes stop true bound own run told total halts =
    let m = wedge image script frames in
    let none : last.step + 0 ≡ last.step = omega arith in
    let le : last.step ≤ n = omega (arith, total) in
    let lt : last.step < 2 ^ 64 = omega arith in
    before_yes image script frames n (choices_of notes) reports last.step stop
    (to_end (course_of image script frames last.step (choices_of notes)) (course (on_bare m) (choices_of notes) 0 last)
    reports last.step Bound
    (known_course law m notes sets (boot m) last reports 0 last.step run told refl none) (course_none (on_bare m) (choices_of notes) last))
    (told_last n reports last.step (Stopped stop) le bound ∙ ap (λ (b : Bool). cond b (Some stop) None) own)
    (steps_last reports last.step (Stopped stop) lt)
    (text_before (trace_of reports) last.step (Stopped stop) lt)
stop_case law image script frames n k sets reports last notes stop false bound own run told total halts =
    let m = wedge image script frames in
    let set = set_told notes last.step last.set in
    let le : last.step ≤ n = omega (arith, total) in
    whole_yes image script frames n (choices_of notes) reports last.step (Stopped stop)
    (to_end (course_of image script frames n (choices_of notes)) (course (on_bare m) (choices_of notes) (suc k) last) reports
    last.step (Stopped stop)
    (known_course law m notes sets (boot m) last reports (suc k) n run told refl total)
    (halts_first (on_bare m) (choices_of notes) k last set stop (chosen_told (on_bare m) last notes 0 last.set)
    (halts_agrees law m last set stop own halts)))
    (told_last n reports last.step (Stopped stop) le bound ∙ ap (λ (b : Bool). cond b (Some stop) None) own)

pub notes_are_judged : StepsAgree → NotesAreJudged
notes_are_judged law image script frames n sets reports last Bound notes bound run told stops =
    bound_case law image script frames n sets reports last notes bound run.steps told run.ends
notes_are_judged law image script frames n sets reports last (Stopped stop) notes bound run told stops =
    let left = n - (last.step + 1) in
    let lt : last.step < n = run.ends.0 in
    let total : last.step + suc left ≡ n = omega (arith, lt) in
    stop_case law image script frames n left sets reports last notes stop (is_extra_stop stop) bound refl run.steps told total stops
