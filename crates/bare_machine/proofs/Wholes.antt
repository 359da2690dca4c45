-- From a slice and the last line to a whole run.
use Rattle.std.proofs.Common.{◌≡◌, ℕ, ◌≤◌, Bool, List, [], ◌++◌, Option, Result, Ok, Err, refl, sym, ap, subst, ◌∙◌}
use Rattle.std.proofs.lemmas.List.{append-nil}
use Rattle.pv_io.specs.declared.answer.Failed.{Failed}
use Rattle.pv_io.specs.Causes.{Rose}
use Rattle.pv_io.specs.Sink.{Appends, AppendsFront}
use Rattle.board.specs.Scripts.{Events}
use Rattle.image_check.specs.Image.{Image}
use Rattle.image_load.specs.Boot.{need}
use Rattle.run_trace.specs.declared.pause.Pause.{Pause}
use Rattle.run_trace.specs.declared.pause.Pause.TheVariants.{Reached, Stopped}
use Rattle.image_load.specs.declared.fault.RunFault.{RunFault}
use Rattle.image_load.specs.declared.fault.RunFault.TheVariants as fault
use Rattle.run_trace.specs.declared.items.End.{End}
use Rattle.run_trace.specs.declared.items.Ended.{Ended}
use Rattle.run_trace.specs.Text.{lines_of, end_line, text_of}
use Rattle.machine_model.specs.State.{Setting, State, boot}
use Rattle.machine_model.specs.Run.{Run, trace_of, with_set}
use Rattle.machine_model.proofs.Ending.{each_ends}
use Rattle.machine_model.proofs.Texts.{text_join, text_is}
use Rattle.bare_machine.specs.Settings.{bare}
use Rattle.bare_machine.specs.Slices.{SliceAs}
use Rattle.bare_machine.specs.Answers.{RunsTo, WholeAs, RunAnswers, RefusedRun}
use Rattle.bare_machine.specs.Runs.{HasRun}
use Rattle.bare_machine.specs.Ending.{EndsAs}
use Rattle.bare_machine.specs.Starts.{NotBegun}
use Rattle.run_trace.specs.Pauses.{end_of}
use Rattle.bare_machine.proofs.Runs.{part_allowed, same_step, steps_join}
use Rattle.pv_io.proofs.Pieces.{appends_both, appends_none, front_of}

-- the slice that ended is a run
pub ran : (s : Setting) (exact : Bool) (n : ℕ) (old new : State) (told tells : Option (List ℕ)) (pause : Pause)
    → (h : SliceAs s exact n old new told tells (Ok pause))
    → RunsTo s n old (lines_of (trace_of h.reports) ++ end_line new.step (end_of pause)) new.step (end_of pause)
ran s exact n old new told tells Reached h = record {
  sets = h.passes.sets;
  reports = h.reports;
  last = with_set h.last h.passes.whole;
  run = record { steps = h.passes.steps; ends = h.ends.0 };
  count_is = ap (λ (b : State). b.step) h.ends.1;
  text_is = text_is h.reports new.step (end_of Reached);
}
ran s exact n old new told tells (Stopped stop) h = record {
  sets = h.passes.sets;
  reports = h.reports;
  last = with_set h.last h.passes.whole;
  run = record {
    steps = h.passes.steps;
    ends = (
      h.ends.0,
      record {
        set = h.last.set;
        allowed = part_allowed s h.last h.passes.whole h.last.set h.passes.part;
        halts = same_step s h.last h.passes.whole h.last.set ∙ h.ends.2;
      },
    );
  };
  count_is = h.ends.1;
  text_is = text_is h.reports new.step (end_of (Stopped stop));
}

-- all lines and the last one were put
whole_put : (s : Setting) (exact : Bool) (n : ℕ) (old new : State) (a b c : Option (List ℕ)) (pause : Pause) (before mid now : ℕ)
    → (h : SliceAs s exact n old new a b (Ok pause))
    → Appends b c (end_line new.step (end_of pause)) → mid ≡ before → now ≡ mid
    → WholeAs s n old a c before now (Ok (record { steps = new.step; end = end_of pause; fills = 0 }))
whole_put s exact n old new a b c pause before mid now h put same kept = (
  lines_of (trace_of h.reports) ++ end_line new.step (end_of pause),
  ran s exact n old new a b pause h,
  appends_both a b c _ _ h.text put,
  kept ∙ same,
)

-- all lines and a front of the last one
whole_unput : (s : Setting) (exact : Bool) (n : ℕ) (old new : State) (a b c : Option (List ℕ)) (pause : Pause) (before mid now : ℕ)
    → (h : SliceAs s exact n old new a b (Ok pause))
    → AppendsFront b c (end_line new.step (end_of pause)) → mid ≡ before → Rose mid now → WholeAs s n old a c before now (Err fault.Write)
whole_unput s exact n old new a b c pause before mid now h put same rose = (
  lines_of (trace_of h.reports) ++ end_line new.step (end_of pause),
  new.step,
  end_of pause,
  ran s exact n old new a b pause h,
  front_of a b c (lines_of (trace_of h.reports)) (end_line new.step (end_of pause)) [] _ h.text put
      (ap (λ (l : List ℕ). lines_of (trace_of h.reports) ++ l) (sym (append-nil (end_line new.step (end_of pause))))),
  subst (λ (k : ℕ). Rose k now) same rose,
)

-- the slice ended, and the last line answers
pub whole_ended : (s : Setting) (exact : Bool) (n : ℕ) (old new : State) (a b c : Option (List ℕ)) (pause : Pause) (before mid now : ℕ)
    (result : Result Ended RunFault) → SliceAs s exact n old new a b (Ok pause)
    → mid ≡ before → EndsAs new.step (end_of pause) b c mid now result → WholeAs s n old a c before now result
whole_ended s exact n old new a b c pause before mid now (Ok ended) h same e =
    subst (λ (x : Ended). WholeAs s n old a c before now (Ok x)) (sym e.0)
    (whole_put s exact n old new a b c pause before mid now h e.1 same e.2)
whole_ended s exact n old new a b c pause before mid now (Err fault.Write) h same e =
    whole_unput s exact n old new a b c pause before mid now h e.0 same e.1
whole_ended s exact n old new a b c pause before mid now (Err (fault.TooSmall small)) h same e = absurd e
whole_ended s exact n old new a b c pause before mid now (Err fault.Memory) h same e = absurd e

-- a front of the lines
pub whole_front : (s : Setting) (exact : Bool) (n : ℕ) (old new : State) (a b : Option (List ℕ)) (failed : Failed) (before now : ℕ)
    → SliceAs s exact n old new a b (Err failed) → Rose before now
    → WholeAs s n old a b before now (Err fault.Write)
whole_front s exact n old new a b failed before now h rose =
    let e = each_ends s n (with_set h.last h.passes.whole) h.ends in (
      text_of (trace_of (h.reports ++ e.reports)) e.last.step e.end,
      e.last.step,
      e.end,
      record {
        sets = h.passes.sets ++ e.sets;
        reports = h.reports ++ e.reports;
        last = e.last;
        run =
            record {
              steps = steps_join s old (with_set h.last h.passes.whole) e.last h.passes.sets e.sets h.reports e.reports
                  h.passes.steps e.run.steps;
              ends = e.run.ends;
            };
        count_is = refl;
        text_is = refl;
      },
      front_of a a b [] (lines_of (trace_of h.reports)) (lines_of (trace_of e.reports) ++ end_line e.last.step e.end) _ (appends_none a)
          h.text (text_join h.reports e.reports e.last.step e.end),
      rose,
    )

has_run : (image : Image) (script : Events) (frames n : ℕ) (first : State) (text : List ℕ) (count : ℕ) (end : End)
    → need image ≤ frames → first ≡ boot (bare image script frames) → RunsTo (bare image script frames) n first text count end
    → HasRun image script frames n text count end
has_run image script frames n first text count end fits is ran = record {
  fits = fits;
  given = record {
    sets = ran.sets;
    reports = ran.reports;
    last = ran.last;
    run = subst (λ (b : State). Run (bare image script frames) n b ran.sets ran.reports ran.last end) is ran.run;
    count_is = ran.count_is;
    text_is = ran.text_is;
  };
}

pub answered : (image : Image) (script : Events) (frames n : ℕ) (first : State) (old new : Option (List ℕ)) (before now : ℕ)
    (result : Result Ended RunFault)
    → need image ≤ frames → first ≡ boot (bare image script frames) → WholeAs (bare image script frames) n first old new before now result
    → RunAnswers image script frames n old new before now result
answered image script frames n first old new before now (Ok ended) fits is h =
    (h.0, has_run image script frames n first h.0 ended.steps ended.end fits is h.1, h.2, h.3)
answered image script frames n first old new before now (Err fault.Write) fits is h =
    (h.0, h.1, h.2, has_run image script frames n first h.0 h.1 h.2 fits is h.3, h.4, h.5)
answered image script frames n first old new before now (Err (fault.TooSmall small)) fits is h = absurd h
answered image script frames n first old new before now (Err fault.Memory) fits is h = absurd h

-- a run that does not begin writes nothing
pub unbegun : (image : Image) (script : Events) (frames n : ℕ) (old : Option (List ℕ)) (before : ℕ) (why : RunFault)
    → NotBegun image frames why → RefusedRun image script frames n old old before before why
unbegun image script frames n old before fault.Write h = absurd h
unbegun image script frames n old before (fault.TooSmall small) h = (h.0, h.1, refl, refl)
unbegun image script frames n old before fault.Memory h = (refl, refl)
