-- The course of a run of which a cache keeps what each step has left is a run.
use Rattle.std.proofs.Common.{◌≡◌, ℕ, zero, suc, ◌+◌, ◌-◌, [], ◌∷◌, refl, ◌∙◌, arith}
use Rattle.paging.specs.Part.{IsPartOf}
use Rattle.machine_model.specs.State.{Setting, State, boot}
use Rattle.machine_model.specs.Step as steps
use Rattle.machine_model.specs.Step.{Report, Went, Halts, step_of}
use Rattle.machine_model.specs.Run.{Set, Steps, with_set}
use Rattle.machine_model.specs.Ends.{StepsTo}
use Rattle.machine_model.proofs.Counting.{each_counts}
use Rattle.bare_mem.specs.Keeping.{Keeps, kept_after}
use Rattle.bare_machine.specs.Settings.{bare}
use Rattle.bare_machine.specs.FreshRuns.{after_step}
use Rattle.bare_machine.specs.Buffered.{cut_to, kept_by, kept_course, buffered_run, in_buffer}
use Rattle.bare_machine.specs.KeptLaws.{IsKeptRun, EachKeptCourseIsARun, EachBufferedRunIsARun}
use Rattle.bare_machine.proofs.Leaving.{left_part}
use Rattle.bare_machine.proofs.Runs.{part_allowed, part_same, same_step}

-- a step, and the course after it
run_from : (keeping : Keeps) (k : ℕ) (s : Setting) (n : ℕ) (b : State) (whole : Set) (r : steps.Result) → IsPartOf b.set whole
    → step_of s b b.set ≡ r → StepsTo (b.step + 1) r → b.step + suc k ≡ n
    → ((mid : State) (left_then : Set) → IsPartOf mid.set left_then → mid.step + k ≡ n → IsKeptRun s n (with_set mid left_then)
    (kept_course keeping s k mid))
    → IsKeptRun s n (with_set b whole) (after_step b (kept_by keeping b.set r) (λ mid. kept_course keeping s k mid))
unfolding Steps
run_from keeping k s n b whole (Went now new) part is counts left later =
    let kept = cut_to new.set (kept_after keeping b.set now.pages new.set) in
    let mid = with_set new kept in
    let l = later mid new.set (left_part new.set (kept_after keeping b.set now.pages new.set)) (omega (arith, counts, left)) in
    record {
      sets = b.set ∷ l.sets;
      last = l.last;
      run = record {
        steps = (
          new,
          now,
          (kept_course keeping s k mid).reports,
          part_allowed s b whole b.set part,
          same_step s b whole b.set ∙ is,
          l.run.steps,
          refl,
        );
        ends = l.run.ends;
      };
      count_is = l.count_is;
    }
run_from keeping k s n b whole (Halts stop) part is counts left later = record {
  sets = [];
  last = with_set b whole;
  run = record {
    steps = (refl, refl);
    ends =
        (omega (arith, left), record { set = b.set; allowed = part_allowed s b whole b.set part; halts = same_step s b whole b.set ∙ is });
  };
  count_is = refl;
}

course_runs : (keeping : Keeps) (k : ℕ) (s : Setting) (n : ℕ) (b : State) (whole : Set) → IsPartOf b.set whole → b.step + k ≡ n
    → IsKeptRun s n (with_set b whole) (kept_course keeping s k b)
unfolding Steps kept_course
course_runs keeping zero s n b whole part left =
    record { sets = []; last = with_set b whole; run = record { steps = (refl, refl); ends = omega (arith, left) }; count_is = refl }
course_runs keeping (suc k) s n b whole part left =
    run_from keeping k s n b whole (step_of s b b.set) part refl (each_counts s b b.set) left
    (λ mid set p h. course_runs keeping k s n mid set p h)

pub each_kept_course_runs : EachKeptCourseIsARun
each_kept_course_runs keeping s n b le = course_runs keeping (n - b.step) s n b b.set (part_same b.set) (omega (arith, le))

pub each_buffered_run_runs : EachBufferedRunIsARun
each_buffered_run_runs image script frames n fits =
    let s = bare image script frames in
    let h = course_runs in_buffer n s n (boot s) (boot s).set (part_same (boot s).set) (omega arith) in
    record {
      fits = fits;
      given = record {
        sets = h.sets;
        reports = (buffered_run image script frames n).reports;
        last = h.last;
        run = h.run;
        count_is = h.count_is;
        text_is = refl;
      };
    }
