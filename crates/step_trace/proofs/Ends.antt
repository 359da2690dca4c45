-- The last line of a trace.
use Rattle.std.proofs.Common.{◌≡◌, ℕ, ◌-◌, ◌<◌, ◌≤◌, nat_le, false, List, [], ◌++◌, Option, Result, Ok, Err, refl, sym, ap, subst, ◌∙◌, arith}
use Rattle.std.proofs.lemmas.List.{append-nil}
use Rattle.std.proofs.lemmas.Bool.{lt-leb}
use Rattle.pv_io.specs.declared.answer.Failed.{Failed}
use Rattle.pv_io.specs.Causes.{Rose}
use Rattle.pv_io.specs.Sink.{Appends, AppendsFront}
use Rattle.pv_io.proofs.Pieces.{appends_both, front_of}
use Rattle.ia32_types.specs.declared.stop.Stop.{Stop}
use Rattle.board.specs.Scripts.{Events}
use Rattle.image_check.specs.Image.{Image}
use Rattle.image_load.specs.Boot.{need}
use Rattle.image_load.specs.declared.fault.RunFault.{RunFault}
use Rattle.image_load.specs.declared.fault.RunFault.TheVariants as fault
use Rattle.run_trace.specs.declared.pause.Pause.TheVariants as pause
use Rattle.run_trace.specs.declared.items.End.{End}
use Rattle.run_trace.specs.declared.items.End.TheVariants.{Stopped}
use Rattle.run_trace.specs.declared.items.Ended.{Ended}
use Rattle.run_trace.specs.Text.{lines_of, end_line}
use Rattle.look_words.specs.Words.{Only}
use Rattle.machine_model.specs.State.{Setting, State, boot}
use Rattle.machine_model.specs.Run.{trace_of}
use Rattle.bare_mem.specs.Keeping.{Keeps}
use Rattle.bare_machine.specs.Settings.{bare}
use Rattle.bare_machine.specs.Ending.{EndsAs}
use Rattle.bare_machine.specs.Buffered.{in_buffer, KeptSlice}
use Rattle.step_trace.specs.Lines.{stop_line}
use Rattle.step_trace.specs.Traces.{Trace, behind_lines, kept_trace, trace_to, buffered_trace}
use Rattle.step_trace.specs.Answers.{HasPut, HasEnded, TracesAs, TraceAnswers}
use Rattle.step_trace.proofs.Going.{put_on, put_none, put_front, trace_stops, quiet}

-- all but the last line was put, and the last line answers
pub ended : (whole : Trace) (count : ℕ) (end : End) (a b c : Option (List ℕ)) (before mid now : ℕ) (result : Result Ended RunFault)
    → HasEnded whole count end a b → mid ≡ before → EndsAs count end b c mid now result → TracesAs whole a c before now result
ended whole count end a b c before mid now (Ok done) h same e = (
  e.0 ∙ sym (ap (λ (t : Trace). record { steps = t.count; end = t.end; fills = 0 }) h.whole_is),
  subst (λ (t : Trace). Appends a c t.text) (sym h.whole_is) (appends_both a b c h.lines (end_line count end) h.text e.1),
  e.2 ∙ same,
)
ended whole count end a b c before mid now (Err fault.Write) h same e = (
  front_of a b c h.lines (end_line count end) [] whole.text h.text e.0
      (ap (λ (t : Trace). t.text) h.whole_is ∙ ap (λ (l : List ℕ). h.lines ++ l) (sym (append-nil (end_line count end)))),
  subst (λ (k : ℕ). Rose k now) same e.1,
)
ended whole count end a b c before mid now (Err (fault.TooSmall small)) h same e = absurd e
ended whole count end a b c before mid now (Err fault.Memory) h same e = absurd e

-- a stop before the first line
not_from : (from k : ℕ) → k < from → nat_le from k ≡ false
not_from from k lt = lt-leb _ _ lt

none_yet : (m : Setting) (from : ℕ) (b : State) → b.step < from → stop_line m from b ≡ []
unfolding stop_line
none_yet m from b lt = rw (not_from from b.step lt) refl

-- a slice that stops before it
pub stopped_early : (keeping : Keeps) (m : Setting) (n from bound : ℕ) (only : Only) (old new : State) (a b : Option (List ℕ)) (stop : Stop)
    → bound ≤ from → bound ≤ n → KeptSlice keeping m bound old new a b (Ok (pause.Stopped stop))
    → HasEnded (trace_to keeping m n from only old) new.step (Stopped stop) a b
stopped_early keeping m n from bound only old new a b stop le within h =
    let below = h.ends.0 in
    let line : stop_line m from h.last ≡ [] = none_yet m from h.last (omega (arith, below, le)) in
    let lines = lines_of (trace_of h.reports) in
    record {
      lines = lines;
      whole_is =
          quiet keeping m n from only old h.last h.reports h.steps (omega (arith, below, le)) (omega (arith, below, within))
          ∙ (ap (λ (t : Trace). behind_lines lines t)
          (trace_stops keeping m n from only h.last stop h.ends.2 (omega (arith, below, within)))
          ∙ (ap (λ (l : List ℕ). record {
            text = lines ++ (l ++ end_line h.last.step (Stopped stop));
            count = h.last.step;
            end = Stopped stop;
          }) line
          ∙ ap (λ (k : ℕ). record { text = lines ++ end_line k (Stopped stop); count = k; end = Stopped stop }) (sym h.ends.1)));
      text = h.text;
    }

-- a slice that comes to it
pub begun : (keeping : Keeps) (m : Setting) (n from bound : ℕ) (only : Only) (old new : State) (a b : Option (List ℕ)) → bound ≤ from
    → bound ≤ n → KeptSlice keeping m bound old new a b (Ok pause.Reached)
    → HasPut (trace_to keeping m n from only old) (trace_to keeping m n from only new) a b
begun keeping m n from bound only old new a b le within h =
    let at = h.ends.0 in
    let is = quiet keeping m n from only old h.last h.reports h.steps (omega (arith, at, le)) (omega (arith, at, within)) in
    subst (λ (x : State). HasPut (trace_to keeping m n from only old) (trace_to keeping m n from only x) a b) (sym h.ends.1)
    (put_on _ _ (trace_to keeping m n from only h.last) (lines_of (trace_of h.reports)) a a b
    (put_none (trace_to keeping m n from only old) a) is h.text)

-- a slice whose output failed
pub cut_early : (keeping : Keeps) (m : Setting) (n from bound : ℕ) (only : Only) (old new : State) (a b : Option (List ℕ)) (failed : Failed)
    → bound ≤ from → bound ≤ n → KeptSlice keeping m bound old new a b (Err failed)
    → AppendsFront a b (trace_to keeping m n from only old).text
cut_early keeping m n from bound only old new a b failed le within h =
    let at = h.ends in
    let is = quiet keeping m n from only old h.last h.reports h.steps (omega (arith, at, le)) (omega (arith, at, within)) in
    let whole = trace_to keeping m n from only old in
    put_front whole whole (lines_of (trace_of h.reports)) (trace_to keeping m n from only h.last).text a a b (put_none whole a)
    (ap (λ (t : Trace). t.text) is) h.text

-- the trace from boot
pub answered : (image : Image) (script : Events) (frames n from : ℕ) (only : Only) (first : State) (a b : Option (List ℕ)) (before now : ℕ)
    (result : Result Ended RunFault) → need image ≤ frames → first.step ≡ 0 → first ≡ boot (bare image script frames)
    → TracesAs (trace_to in_buffer (bare image script frames) n from only first) a b before now result
    → TraceAnswers image frames (buffered_trace image script frames n from only) a b before now result
answered image script frames n from only first a b before now result fits start is h =
    let s = bare image script frames in
    let left : n - first.step ≡ n = omega (arith, start) in
    trace_answered image frames (buffered_trace image script frames n from only) a b before now result fits
    (subst (λ (x : State). TracesAs (kept_trace in_buffer s from only n x) a b before now result) is
    (subst (λ (k : ℕ). TracesAs (kept_trace in_buffer s from only k first) a b before now result) left h))
  where
    trace_answered : (image : Image) (frames : ℕ) (t : Trace) (a b : Option (List ℕ)) (before now : ℕ) (result : Result Ended RunFault)
        → need image ≤ frames → TracesAs t a b before now result → TraceAnswers image frames t a b before now result
    trace_answered image frames t a b before now (Ok ended) fits h = (fits, h)
    trace_answered image frames t a b before now (Err fault.Write) fits h = (fits, h)
    trace_answered image frames t a b before now (Err (fault.TooSmall small)) fits h = absurd h
    trace_answered image frames t a b before now (Err fault.Memory) fits h = absurd h
