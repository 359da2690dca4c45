-- From a slice of a patched run and the last line to the rest of a run.
use Rattle.std.proofs.Common.{◌≡◌, ℕ, ◌*◌, ◌≤◌, List, [], ◌∷◌, ◌++◌, take, Option, Ok, Err, refl, sym, ap, subst, ◌∙◌}
use Rattle.std.proofs.lemmas.List.{append-nil}
use Rattle.pv_io.specs.declared.answer.Failed.{Failed}
use Rattle.pv_io.specs.Causes.{Rose}
use Rattle.pv_io.specs.Sink.{Appends, AppendsFront}
use Rattle.pv_io.proofs.Pieces.{appends_both, front_of, appends_none}
use Rattle.run_trace.specs.declared.pause.Pause.{Pause}
use Rattle.run_trace.specs.declared.items.End.{End}
use Rattle.run_trace.specs.Text.{lines_of, end_line, text_of}
use Rattle.run_trace.specs.Pauses.{end_of, IfReached}
use Rattle.machine_model.specs.State.{Setting, State}
use Rattle.machine_model.specs.Run.{EndsIn, trace_of}
use Rattle.machine_model.proofs.Ending.{each_ends}
use Rattle.machine_model.proofs.Texts.{text_join}
use Rattle.machine_model.proofs.Runs.{steps_join}
use Rattle.bare_machine.specs.Answers.{RunsTo}
use Rattle.wedge_core.specs.Promises.{HasFills, with_patches}
use Rattle.wedge_core.specs.Slices.{Filling, Knowing, Noting, Outward, SliceAs}
use Rattle.machine_model.specs.Joined.{KeptBefore}
use Rattle.wedge_core.proofs.AfterPast.{kept_first}
use Rattle.wedge_core.proofs.WholeRuns.{text_is, ends_by, count_by, memory_by, kept_by}
use Rattle.checkpoint.specs.Continued.{PromiseFrom}
use Rattle.checkpoint.proofs.Filling.{filled_in}

-- what is so where all lines and the last one were put, of a run with this end
abbrev pub WentOn : Setting → ℕ → State → Outward → Option (List ℕ) → ℕ → ℕ → List ℕ → ℕ → End → ℕ → Type 0
WentOn m n old out c before now memory steps end fills =
    (text : List ℕ) × (run : PromiseFrom m n old text steps end out.before out.after memory) × Appends out.told c text
    × (now ≡ before) × HasFills m run.sets run.last fills

module _ {m : Setting} {n : ℕ} {old new : State} {out : Outward} {filling : Filling} {noting : Noting} {knows : Knowing} where
  went_to : KeptBefore → (c : Option (List ℕ)) (pause : Pause) (before mid now : ℕ) (memory : List ℕ) (steps fills : ℕ)
      → fills ≡ filling.filled → filling.pages ≤ filling.fills → filling.filled ≤ 128 * new.step → steps ≡ new.step
      → IfReached (Ok pause) (take (4096 * m.frames) memory ≡ with_patches m.image new.ram)
      → SliceAs m n old new out filling noting knows (Ok pause) → knows.before []
      → Appends out.tells c (end_line steps (end_of pause)) → mid ≡ before → now ≡ mid
      → WentOn m n old out c before now memory steps (end_of pause) fills
  went_to law c pause before mid now memory steps fills fills_is were few steps_is has h bare put same more = (
    lines_of (trace_of h.reports) ++ end_line steps (end_of pause),
    record {
      sets = h.sets;
      reports = h.reports;
      last = h.last;
      run = record { steps = h.steps; ends = ends_by m n h.last new h.end pause h.ends };
      count_is = steps_is ∙ count_by m n h.last new h.end pause h.ends;
      text_is = text_is h.reports steps (end_of pause);
      counts = h.counts;
      memory_is = memory_by m n h.last new h.end pause memory has h.ends;
      kept = kept_by law m n old h.last new h.sets h.end pause h.ends (kept_first m old (h.sets ++ h.end ∷ []) (h.kept [] bare));
    },
    appends_both out.told out.tells c _ _ h.text put,
    more ∙ same,
    subst (HasFills m h.sets h.last) (sym fills_is) (filled_in pause were few h),
  )

  -- all lines and the last one were put
  pub went_on : KeptBefore → (c : Option (List ℕ)) (pause : Pause) (before mid now : ℕ) (memory : List ℕ) (steps : ℕ)
      (end : End) (fills : ℕ)
      → fills ≡ filling.filled → filling.pages ≤ filling.fills → filling.filled ≤ 128 * new.step → steps ≡ new.step → end ≡ end_of pause
      → IfReached (Ok pause) (take (4096 * m.frames) memory ≡ with_patches m.image new.ram)
      → SliceAs m n old new out filling noting knows (Ok pause) → knows.before [] → Appends out.tells c (end_line steps end)
      → mid ≡ before → now ≡ mid
      → WentOn m n old out c before now memory steps end fills
  went_on law c pause before mid now memory steps end fills fills_is were few steps_is end_is has h bare put same more =
      subst (λ (e : End). WentOn m n old out c before now memory steps e fills) (sym end_is)
      (went_to law c pause before mid now memory steps fills fills_is were few steps_is has h bare
      (subst (λ (e : End). Appends out.tells c (end_line steps e)) end_is put) same more)

  -- all lines and a front of the last one
  pub went_unput : (c : Option (List ℕ)) (pause : Pause) (before mid now : ℕ) (steps : ℕ) (end : End)
      → steps ≡ new.step → end ≡ end_of pause → SliceAs m n old new out filling noting knows (Ok pause)
      → AppendsFront out.tells c (end_line steps end) → mid ≡ before → Rose mid now
      → (text : List ℕ) × (count : ℕ) × (e : End) × RunsTo m n old text count e × AppendsFront out.told c text × Rose before now
  went_unput c pause before mid now steps end steps_is end_is h put same rose = (
    lines_of (trace_of h.reports) ++ end_line steps end,
    steps,
    end,
    record {
      sets = h.sets;
      reports = h.reports;
      last = h.last;
      run = record {
        steps = h.steps;
        ends = subst (λ (e : End). EndsIn m n h.last e) (sym end_is) (ends_by m n h.last new h.end pause h.ends);
      };
      count_is = steps_is ∙ count_by m n h.last new h.end pause h.ends;
      text_is = text_is h.reports steps end;
    },
    front_of out.told out.tells c (lines_of (trace_of h.reports)) (end_line steps end) [] _ h.text put
        (ap (λ (l : List ℕ). lines_of (trace_of h.reports) ++ l) (sym (append-nil (end_line steps end)))),
    subst (λ (k : ℕ). Rose k now) same rose,
  )

  -- a front of the lines
  pub went_front : (failed : Failed) (before now : ℕ) → SliceAs m n old new out filling noting knows (Err failed) → Rose before now
      → (text : List ℕ) × (count : ℕ) × (e : End) × RunsTo m n old text count e × AppendsFront out.told out.tells text × Rose before now
  went_front failed before now h rose =
      let e = each_ends m n h.last h.ends in (
        text_of (trace_of (h.reports ++ e.reports)) e.last.step e.end,
        e.last.step,
        e.end,
        record {
          sets = h.sets ++ e.sets;
          reports = h.reports ++ e.reports;
          last = e.last;
          run = record { steps = steps_join m old h.last e.last h.sets e.sets h.reports e.reports h.steps e.run.steps; ends = e.run.ends };
          count_is = refl;
          text_is = refl;
        },
        front_of out.told out.told out.tells [] (lines_of (trace_of h.reports))
            (lines_of (trace_of e.reports) ++ end_line e.last.step e.end) _ (appends_none out.told) h.text
            (text_join h.reports e.reports e.last.step e.end),
        rose,
      )
