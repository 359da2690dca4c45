-- From a slice of a patched run to a run that rests or stops.
use Rattle.std.proofs.Common.{◌≡◌, ℕ, ◌*◌, ◌≤◌, List, ◌++◌, Option, Result, Ok, Err, length, refl, sym, ap, subst, ◌∙◌}
use Rattle.pv_io.specs.declared.answer.Failed.{Failed}
use Rattle.pv_io.specs.Sink.{Appends, AppendsFront}
use Rattle.pv_io.proofs.Pieces.{appends_both}
use Rattle.ia32_types.specs.declared.stop.Stop as stops
use Rattle.run_trace.specs.declared.pause.Pause.{Pause}
use Rattle.run_trace.specs.declared.pause.Pause.TheVariants.{Reached, Stopped}
use Rattle.run_trace.specs.declared.items.End.TheVariants as ends
use Rattle.run_trace.specs.Text.{lines_of, end_line}
use Rattle.machine_model.specs.State.{Setting, State}
use Rattle.machine_model.specs.Fit.{Fit}
use Rattle.machine_model.specs.StaysFit.{RunsKeepFit}
use Rattle.machine_model.specs.Run.{Run, trace_of}
use Rattle.machine_model.proofs.Texts.{text_is}
use Rattle.wedge_core.specs.Slices.{Filling, Knowing, Noting, Outward, SliceAs}
use Rattle.wedge_core.specs.Promises.{HasFills}
use Rattle.wedge_core.proofs.WholeRuns.{ends_by, count_by}
use Rattle.checkpoint.specs.InForm.{IsInForm}
use Rattle.checkpoint.specs.Moved.{kept_of}
use Rattle.checkpoint.specs.Rested.{RestsTo}
use Rattle.checkpoint.specs.RestAnswers.{RestsWith, host_counts}
use Rattle.checkpoint.proofs.Filling.{filled_in}
use Rattle.checkpoint.proofs.Resting.{FailsIn, fails_in_lines, fails_at_end}

module _ {m : Setting} {old new : State} {out : Outward} {filling : Filling} {noting : Noting} {knows : Knowing} where
  -- the same slice, with its bound named otherwise
  pub at_bound : (n bound : ℕ) (result : Result Pause Failed) → n ≡ bound
      → SliceAs m n old new out filling noting knows result → SliceAs m bound old new out filling noting knows result
  at_bound n bound result is h = subst (λ (k : ℕ). SliceAs m k old new out filling noting knows result) is h

  -- the same slice, once it is known how it paused
  pub paused_so : (n : ℕ) (pause other : Pause) → pause ≡ other
      → SliceAs m n old new out filling noting knows (Ok pause) → SliceAs m n old new out filling noting knows (Ok other)
  paused_so n pause other is h = subst (λ (p : Pause). SliceAs m n old new out filling noting knows (Ok p)) is h

module _ {m : Setting} {n : ℕ} {old new : State} {out : Outward} {filling : Filling} {noting : Noting} {knows : Knowing} where
  pub guest_rests : (before now : ℕ) (pause : Pause) → pause ≡ Reached → SliceAs m n old new out filling noting knows (Ok pause)
      → now ≡ before → IsInForm (kept_of new) → length new.ram ≡ 4096 * m.frames
      → (last : State) × RestsWith m n old (host_counts m out.before out.after) out.told out.tells before now last
      × (kept_of new ≡ kept_of last)
  guest_rests before now Reached e h same form size = (
    h.last,
    record {
      text = lines_of (trace_of h.reports);
      rests = record {
        sets = h.sets;
        reports = h.reports;
        run = record { steps = h.steps; ends = h.ends.0 };
        text_is = refl;
        counted = h.counts;
      };
      form = subst IsInForm (ap kept_of h.ends.1) form;
      size = ap (λ (b : State). length b.ram) (sym h.ends.1) ∙ size;
      put = h.text;
      kept = same;
    },
    ap kept_of h.ends.1,
  )
  guest_rests before now (Stopped stop) e h same form size = absurd (cc)

  -- the run of a slice that stopped
  stopped_run : (stop : stops.Stop) → (h : SliceAs m n old new out filling noting knows (Ok (Stopped stop)))
      → Run m n old h.sets h.reports h.last (ends.Stopped stop)
  stopped_run stop h = record { steps = h.steps; ends = ends_by m n h.last new h.end (Stopped stop) h.ends }

  pub guest_stops : (c : Option (List ℕ)) (stop : stops.Stop) (steps fills : ℕ) → fills ≡ filling.filled
      → filling.pages ≤ filling.fills → filling.filled ≤ 128 * new.step → steps ≡ new.step
      → SliceAs m n old new out filling noting knows (Ok (Stopped stop)) → Appends out.tells c (end_line steps (ends.Stopped stop))
      → (last : State) × (text : List ℕ) × (rests : RestsTo m n old (host_counts m out.before out.after) text last (ends.Stopped stop))
      × (steps ≡ last.step) × Appends out.told c text × HasFills m rests.sets last fills
  guest_stops c stop steps fills fills_is were few steps_is h put =
      let same = steps_is ∙ count_by m n h.last new h.end (Stopped stop) h.ends in (
        h.last,
        lines_of (trace_of h.reports) ++ end_line steps (ends.Stopped stop),
        record {
          sets = h.sets;
          reports = h.reports;
          run = stopped_run stop h;
          text_is = ap (λ (k : ℕ). lines_of (trace_of h.reports) ++ end_line k (ends.Stopped stop)) same
              ∙ text_is h.reports h.last.step (ends.Stopped stop);
          counted = h.counts;
        },
        same,
        appends_both out.told out.tells c _ _ h.text put,
        subst (HasFills m h.sets h.last) (sym fills_is) (filled_in (Stopped stop) were few h),
      )

  pub guest_unput : (c : Option (List ℕ)) (stop : stops.Stop) (steps : ℕ) → steps ≡ new.step
      → SliceAs m n old new out filling noting knows (Ok (Stopped stop)) → AppendsFront out.tells c (end_line steps (ends.Stopped stop))
      → FailsIn m n old out.told c
  guest_unput c stop steps steps_is h put =
      fails_at_end m n old h.last h.sets h.reports stop steps out.told out.tells c (stopped_run stop h)
      (steps_is ∙ count_by m n h.last new h.end (Stopped stop) h.ends) h.text put

  pub guest_fails : (failed : Failed) → SliceAs m n old new out filling noting knows (Err failed) → FailsIn m n old out.told out.tells
  guest_fails failed h = fails_in_lines m n old h.last h.sets h.reports out.told out.tells h.steps h.ends h.text

  -- a slice that has done its steps leaves the processor fit
  pub guest_fit : RunsKeepFit → (pause : Pause) → pause ≡ Reached → SliceAs m n old new out filling noting knows (Ok pause) → Fit old.cpu
      → length old.cpu.seg ≡ 4 → Fit new.cpu
  guest_fit law Reached e h fit four =
      subst (λ (x : State). Fit x.cpu) (sym h.ends.1) (law m old h.last h.sets h.reports h.steps fit four).0
  guest_fit law (Stopped stop) e h fit four = absurd (cc)
