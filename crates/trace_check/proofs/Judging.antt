-- The parts of a judgement.
use Rattle.std.proofs.Common.{◌≡◌, ℕ, List, [], ◌++◌, length, take, Option, Some, None, Result, Ok, Err, refl, sym, ap, subst, ◌∙◌}
use Rattle.std.proofs.lemmas.List.{append-nil}
use Rattle.pv_io.specs.declared.answer.Failed.{Failed}
use Rattle.ia32_types.specs.declared.stop.Stop.{Stop}
use Rattle.board.specs.Scripts.{Events}
use Rattle.image_check.specs.Image.{Image}
use Rattle.run_trace.specs.declared.items.End.{End}
use Rattle.run_trace.specs.declared.items.End.TheVariants.{Bound, Stopped}
use Rattle.run_trace.specs.Text.{lines_of, text_of, end_line}
use Rattle.machine_model.specs.State.{State, boot}
use Rattle.machine_model.specs.Run.{trace_of}
use Rattle.bare_machine.specs.Settings.{bare}
use Rattle.trace_check.specs.declared.list.Choice.{Choice}
use Rattle.trace_check.specs.declared.told.Told.{Told}
use Rattle.trace_check.specs.declared.answer.CourseEnd.{CourseEnd}
use Rattle.trace_check.specs.declared.answer.CourseEnd.TheVariants.{Ended, BadAt}
use Rattle.trace_check.specs.declared.answer.Verdict.{Verdict}
use Rattle.trace_check.specs.declared.answer.Verdict.TheVariants.{Yes, BadEntry, Differs}
use Rattle.trace_check.specs.declared.answer.ReplayFault.{ReplayFault}
use Rattle.trace_check.specs.Lines.{lines, last_of, before_last, differing, steps_told, stop_told}
use Rattle.trace_check.specs.Matches.{Matched, DiffersAs, line_behind}
use Rattle.trace_check.specs.Courses.{Course, course, course_of}
use Rattle.trace_check.specs.Follows.{FollowsAs}
use Rattle.trace_check.specs.Tells.{IsLastLine}
use Rattle.trace_check.specs.Judged.{unless_differs, judged_whole, judged_end, judged_before, judged_by, judged}
use Rattle.trace_check.specs.Replayed.{Replays}
use Rattle.trace_check.specs.Begins.{by_end, end_verdict, before_by, verdict_on, DiffersUnlessBad, JudgesAs}
use Rattle.trace_check.proofs.Comparing.{Known, compared}

-- the course from where a machine stands that is begun
pub course_from : (image : Image) (script : Events) (frames f n : ℕ) (list : List Choice) (first : State) → f ≡ frames
    → first ≡ boot (bare image script frames)
    → course (bare image script f) list n first ≡ course_of image script frames n list
course_from image script frames f n list first same is =
    ap (λ (k : ℕ). course (bare image script k) list n first) same ∙ ap (course (bare image script frames) list n) is

pub follows_from : (image : Image) (script : Events) (frames f n : ℕ) (list : List Choice) (first : State) (count : ℕ)
    (told tells : Option (List ℕ)) (r : Result CourseEnd Failed) → f ≡ frames → first ≡ boot (bare image script frames)
    → FollowsAs (course (bare image script f) list n first) count told tells r
    → FollowsAs (course_of image script frames n list) count told tells r
follows_from image script frames f n list first count told tells r same is h =
    subst (λ (c : Course). FollowsAs c count told tells r) (course_from image script frames f n list first same is) h

-- ---- a whole text

whole_bad : (text : List ℕ) (c : Course) (at : ℕ) → c.end ≡ BadAt at → BadEntry at ≡ judged_whole text c c.end
whole_bad text c at is = sym (ap (judged_whole text c) is)

whole_text : (text : List ℕ) (c : Course) (end : End) (m : Matched) (r : Option ℕ)
    → Known text (lines_of (trace_of c.reports) ++ end_line c.count end) m → DiffersAs m r
    → unless_differs r Yes ≡ judged_whole text c (Ended end)
unfolding text_of
whole_text text c end m r known differs =
    sym (ap (λ (o : Option ℕ). unless_differs o Yes)
    (compared text (lines_of (trace_of c.reports) ++ end_line c.count end) m r known differs))

pub whole_ended : (text : List ℕ) (c : Course) (end : End) (steps : ℕ) (m : Matched) (r : Option ℕ) → c.end ≡ Ended end → c.count ≡ steps
    → Known text (lines_of (trace_of c.reports) ++ end_line steps end) m → DiffersAs m r
    → unless_differs r Yes ≡ judged_whole text c c.end
whole_ended text c end steps m r is count known differs =
    whole_text text c end m r (subst (λ (k : ℕ). Known text (lines_of (trace_of c.reports) ++ end_line k end) m) (sym count) known) differs
    ∙ sym (ap (judged_whole text c) is)

whole_failed : (text : List ℕ) (c : Course) (line : ℕ) (m : Matched)
    → ((rest : List ℕ) → Known text (lines_of (trace_of c.reports) ++ rest) m) → DiffersAs m (Some line)
    → by_end c.end line ≡ judged_whole text c c.end
whole_failed text c line m known differs = by c.end
  where
    by : (e : CourseEnd) → by_end e line ≡ judged_whole text c e
    by (BadAt at) = refl
    by (Ended end) = whole_text text c end m (Some line) (known (end_line c.count end)) differs

-- ---- the front of a text

before_bad : (stop : Stop) (front : List ℕ) (c : Course) (at : ℕ) → c.end ≡ BadAt at → BadEntry at ≡ before_by stop front c c.end
before_bad stop front c at is = sym (ap (before_by stop front c) is)

before_lines : (stop : Stop) (front : List ℕ) (c : Course) (end : End) (m : Matched) (r : Option ℕ)
    → Known front (lines_of (trace_of c.reports)) m → DiffersAs m r
    → unless_differs r (end_verdict end stop (line_behind front)) ≡ before_by stop front c (Ended end)
before_lines stop front c end m r known differs =
    sym (ap (λ (o : Option ℕ). unless_differs o (end_verdict end stop (line_behind front)))
    (compared front (lines_of (trace_of c.reports)) m r known differs))

pub before_ended : (stop : Stop) (front : List ℕ) (c : Course) (end : End) (m : Matched) (r : Option ℕ) → c.end ≡ Ended end
    → Known front (lines_of (trace_of c.reports)) m → DiffersAs m r
    → unless_differs r (end_verdict end stop (line_behind front)) ≡ before_by stop front c c.end
before_ended stop front c end m r is known differs = before_lines stop front c end m r known differs ∙ sym (ap (before_by stop front c) is)

before_failed : (stop : Stop) (front : List ℕ) (c : Course) (line : ℕ) (m : Matched)
    → ((rest : List ℕ) → Known front (lines_of (trace_of c.reports) ++ rest) m) → DiffersAs m (Some line)
    → by_end c.end line ≡ before_by stop front c c.end
before_failed stop front c line m known differs = by c.end
  where
    by : (e : CourseEnd) → by_end e line ≡ before_by stop front c e
    by (BadAt at) = refl
    by (Ended end) = before_lines stop front c end m (Some line)
        (subst (λ (l : List ℕ). Known front l m) (append-nil (lines_of (trace_of c.reports))) (known [])) differs

-- ---- either

pub bad_either : (text : List ℕ) (told : Option Stop) (c : Course) (at : ℕ) → c.end ≡ BadAt at → BadEntry at ≡ verdict_on text told c
bad_either text None c at is = whole_bad text c at is
bad_either text (Some stop) c at is = before_bad stop text c at is

pub failed_either : (text : List ℕ) (told : Option Stop) (c : Course) (line : ℕ) (m : Matched)
    → ((rest : List ℕ) → Known text (lines_of (trace_of c.reports) ++ rest) m) → DiffersAs m (Some line)
    → by_end c.end line ≡ verdict_on text told c
failed_either text None c line m known differs = whole_failed text c line m known differs
failed_either text (Some stop) c line m known differs = before_failed stop text c line m known differs

pub bad_judged : (image : Image) (script : Events) (frames n : ℕ) (list : List Choice) (text : List ℕ) (told : Option Stop) (line : ℕ)
    (r : Result Verdict ReplayFault) → by_end (course_of image script frames n list).end line ≡ verdict_on text told
    (course_of image script frames n list)
    → DiffersUnlessBad image script frames n list line r → JudgesAs image script frames n list text told r
bad_judged image script frames n list text told line (Ok verdict) is h = (h.0, h.1 ∙ is)
bad_judged image script frames n list text told line (Err fault) is h = h

-- ---- the judgement

pub whole_replayed : (image : Image) (script : Events) (frames n : ℕ) (list : List Choice) (text : List ℕ) (r : Result Verdict ReplayFault)
    → stop_told n (last_of (lines text)) ≡ None → JudgesAs image script frames n list text None r
    → Replays image script frames n list text r
unfolding judged
whole_replayed image script frames n list text (Ok verdict) none h = (h.0, h.1 ∙ sym (ap (judged_by image script frames n list text) none))
whole_replayed image script frames n list text (Err fault) none h = h

end_is : (stop : Stop) (text front : List ℕ) (end : End) → length (lines text) ≡ line_behind front
    → end_verdict end stop (line_behind front) ≡ judged_end stop text end
end_is stop text front Bound count = refl
end_is stop text front (Stopped other) count = ap (λ (k : ℕ). Differs k) (sym count)

before_is : (stop : Stop) (text : List ℕ) (at : ℕ) (c : Course) (e : CourseEnd) → IsLastLine text at
    → before_by stop (take at text) c e ≡ judged_before stop text c e
before_is stop text at c (BadAt bad) h = refl
before_is stop text at c (Ended end) h =
    ap (λ (l : List (List ℕ)). unless_differs (differing 1 (lines (lines_of (trace_of c.reports))) l)
    (end_verdict end stop (line_behind (take at text)))) h.front
    ∙ ap (λ (v : Verdict). unless_differs (differing 1 (lines (lines_of (trace_of c.reports))) (before_last (lines text))) v)
    (end_is stop text (take at text) end h.count)

pub before_replayed : (image : Image) (script : Events) (frames n : ℕ) (told : Told) (list : List Choice) (text : List ℕ)
    (r : Result Verdict ReplayFault) → stop_told n (last_of (lines text)) ≡ Some told.stop → told.steps ≡ steps_told (last_of (lines text))
    → IsLastLine text told.at
    → JudgesAs image script frames told.steps list (take told.at text) (Some told.stop) r → Replays image script frames n list text r
unfolding judged
before_replayed image script frames n told list text (Ok verdict) is steps last h =
    let c = course_of image script frames told.steps list in (
      h.0,
      h.1 ∙ before_is told.stop text told.at c c.end last
          ∙ ap (λ (k : ℕ). judged_before told.stop text (course_of image script frames k list) (course_of image script frames k list).end)
          steps
          ∙ sym (ap (judged_by image script frames n list text) is),
    )
before_replayed image script frames n told list text (Err fault) is steps last h = h
