-- From a slice of the bare machine to a run that rests or stops.
use Rattle.std.proofs.Common.{◌≡◌, ℕ, ◌*◌, length, Bool, List, ◌++◌, Option, Ok, Err, refl, sym, ap, subst, ◌∙◌}
use Rattle.pv_io.specs.declared.answer.Failed.{Failed}
use Rattle.pv_io.specs.Sink.{Appends, AppendsFront}
use Rattle.pv_io.proofs.Pieces.{appends_both}
use Rattle.ia32_types.specs.declared.stop.Stop as stops
use Rattle.run_trace.specs.declared.pause.Pause.{Pause}
use Rattle.run_trace.specs.declared.pause.Pause.TheVariants.{Reached, Stopped}
use Rattle.run_trace.specs.declared.items.End.TheVariants as ends
use Rattle.run_trace.specs.Text.{lines_of, end_line}
use Rattle.machine_model.specs.State.{Setting, State}
use Rattle.machine_model.specs.Run.{Run, trace_of, with_set}
use Rattle.machine_model.proofs.Texts.{text_is}
use Rattle.bare_machine.specs.Slices.{SliceAs}
use Rattle.bare_machine.proofs.Runs.{part_allowed, same_step}
use Rattle.checkpoint.specs.InForm.{IsInForm}
use Rattle.checkpoint.specs.Moved.{kept_of}
use Rattle.checkpoint.specs.Rested.{RestsTo}
use Rattle.checkpoint.specs.RestAnswers.{RestsWith}
use Rattle.checkpoint.proofs.Resting.{FailsIn, fails_in_lines, fails_at_end}

pub bare_rests : (s : Setting) (exact : Bool) (n : ℕ) (old new : State) (a b : Option (List ℕ)) (before now : ℕ)
    (pause : Pause) → pause ≡ Reached
    → SliceAs s exact n old new a b (Ok pause) → now ≡ before → IsInForm (kept_of new) → length new.ram ≡ 4096 * s.frames
    → (last : State) × RestsWith s n old (λ _. Unit {0}) a b before now last × (kept_of new ≡ kept_of last)
bare_rests s exact n old new a b before now Reached e h same form size = (
  with_set h.last h.passes.whole,
  record {
    text = lines_of (trace_of h.reports);
    rests = record {
      sets = h.passes.sets;
      reports = h.reports;
      run = record { steps = h.passes.steps; ends = h.ends.0 };
      text_is = refl;
      counted = tt;
    };
    form = subst IsInForm (ap kept_of h.ends.1) form;
    size = ap (λ (b : State). length b.ram) (sym h.ends.1) ∙ size;
    put = h.text;
    kept = same;
  },
  ap kept_of h.ends.1,
)
bare_rests s exact n old new a b before now (Stopped stop) e h same form size = absurd (cc)

-- the run of a slice that stopped
stopped_run : (s : Setting) (exact : Bool) (n : ℕ) (old new : State) (a b : Option (List ℕ)) (stop : stops.Stop)
    → (h : SliceAs s exact n old new a b (Ok (Stopped stop)))
    → Run s n old h.passes.sets h.reports (with_set h.last h.passes.whole) (ends.Stopped stop)
stopped_run s exact n old new a b stop h = record {
  steps = h.passes.steps;
  ends = (
    h.ends.0,
    record {
      set = h.last.set;
      allowed = part_allowed s h.last h.passes.whole h.last.set h.passes.part;
      halts = same_step s h.last h.passes.whole h.last.set ∙ h.ends.2;
    },
  );
}

pub bare_stops : (s : Setting) (exact : Bool) (n : ℕ) (old new : State) (a b c : Option (List ℕ)) (stop : stops.Stop)
    → SliceAs s exact n old new a b (Ok (Stopped stop))
    → Appends b c (end_line new.step (ends.Stopped stop))
    → (last : State) × (text : List ℕ) × RestsTo s n old (λ _. Unit {0}) text last (ends.Stopped stop)
    × (new.step ≡ last.step) × Appends a c text
bare_stops s exact n old new a b c stop h put = (
  with_set h.last h.passes.whole,
  lines_of (trace_of h.reports) ++ end_line new.step (ends.Stopped stop),
  record {
    sets = h.passes.sets;
    reports = h.reports;
    run = stopped_run s exact n old new a b stop h;
    text_is =
        ap (λ (k : ℕ). lines_of (trace_of h.reports) ++ end_line k (ends.Stopped stop)) h.ends.1
        ∙ text_is h.reports h.last.step (ends.Stopped stop);
    counted = tt;
  },
  h.ends.1,
  appends_both a b c _ _ h.text put,
)

pub bare_unput : (s : Setting) (exact : Bool) (n : ℕ) (old new : State) (a b c : Option (List ℕ)) (stop : stops.Stop)
    → SliceAs s exact n old new a b (Ok (Stopped stop))
    → AppendsFront b c (end_line new.step (ends.Stopped stop)) → FailsIn s n old a c
bare_unput s exact n old new a b c stop h put =
    fails_at_end s n old (with_set h.last h.passes.whole) h.passes.sets h.reports stop new.step a b c
    (stopped_run s exact n old new a b stop h) h.ends.1 h.text put

pub bare_fails : (s : Setting) (exact : Bool) (n : ℕ) (old new : State) (a b : Option (List ℕ)) (failed : Failed)
    → SliceAs s exact n old new a b (Err failed) → FailsIn s n old a b
bare_fails s exact n old new a b failed h =
    fails_in_lines s n old (with_set h.last h.passes.whole) h.passes.sets h.reports a b h.passes.steps h.ends h.text
