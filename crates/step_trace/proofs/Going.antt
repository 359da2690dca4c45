-- Steps with their lines, a step at a time.
use Rattle.std.proofs.Common.{◌≡◌, ℕ, suc, ◌-◌, ◌<◌, ◌≤◌, List, [], ◌∷◌, ◌++◌, Option, Ok, refl, sym, ap, ◌∙◌, append_assoc, arith}
use Rattle.std.proofs.lemmas.List.{append-nil}
use Rattle.pv_io.specs.Sink.{Appends, AppendsFront}
use Rattle.pv_io.proofs.Pieces.{appends_both, appends_none, front_of}
use Rattle.ia32_types.specs.declared.stop.Stop.{Stop}
use Rattle.run_trace.specs.declared.pause.Pause.TheVariants as pause
use Rattle.run_trace.specs.declared.items.End.TheVariants.{Bound, Stopped}
use Rattle.run_trace.specs.Text.{lines_of, end_line}
use Rattle.look_words.specs.Words.{Only}
use Rattle.machine_model.specs.State.{Setting, State}
use Rattle.machine_model.specs.Step as steps
use Rattle.machine_model.specs.Step.{Report, Went, Halts, step_of}
use Rattle.machine_model.specs.Run.{trace_of}
use Rattle.machine_model.proofs.Texts.{lines_join}
use Rattle.bare_mem.specs.Keeping.{Keeps}
use Rattle.bare_machine.specs.Buffered.{kept_by, kept_step, KeptSteps}
use Rattle.bare_machine.proofs.Buffering.{kept_counts, never_back}
use Rattle.step_trace.specs.Lines.{line_if_printed, stop_line}
use Rattle.step_trace.specs.Traces.{Trace, behind_lines, after_lines, kept_trace, trace_to}
use Rattle.step_trace.specs.Answers.{WentOn, IsCut, Within, AtStop, StepPuts, HasPut, HasEnded, PausesWith}
use Rattle.step_trace.proofs.Quiet.{unprinted}

-- ---- a trace from a state

-- a step that goes
pub trace_went : (keeping : Keeps) (m : Setting) (n from : ℕ) (only : Only) (b new : State) (report : Report)
    → kept_step keeping m b ≡ Went report new → b.step < n
    → trace_to keeping m n from only b
    ≡ behind_lines (line_if_printed m from only b new ++ lines_of report.items) (trace_to keeping m n from only new)
unfolding kept_trace
trace_went keeping m n from only b new report went below =
    let one = kept_counts keeping m b new report went in
    let left : n - b.step ≡ suc (n - new.step) = omega (arith, one, below) in
    ap (λ (k : ℕ). kept_trace keeping m from only k b) left
    ∙ ap (λ (r : steps.Result). after_lines m from only b r (λ mid. kept_trace keeping m from only (n - new.step) mid)) went

-- a step that stops
pub trace_stops : (keeping : Keeps) (m : Setting) (n from : ℕ) (only : Only) (b : State) (stop : Stop) → step_of m b b.set ≡ Halts stop
    → b.step < n
    → trace_to keeping m n from only b
    ≡ record { text = stop_line m from b ++ end_line b.step (Stopped stop); count = b.step; end = Stopped stop }
unfolding kept_trace
trace_stops keeping m n from only b stop halts below =
    let left : n - b.step ≡ suc (n - b.step - 1) = omega (arith, below) in
    ap (λ (k : ℕ). kept_trace keeping m from only k b) left
    ∙ ap (λ (r : steps.Result). after_lines m from only b (kept_by keeping b.set r)
    (λ mid. kept_trace keeping m from only (n - b.step - 1) mid)) halts

-- no step is left
pub trace_ends : (keeping : Keeps) (m : Setting) (n from : ℕ) (only : Only) (b : State) → b.step ≡ n
    → trace_to keeping m n from only b ≡ record { text = end_line b.step Bound; count = b.step; end = Bound }
unfolding kept_trace
trace_ends keeping m n from only b at =
    let none : n - b.step ≡ 0 = omega (arith, at) in
    ap (λ (k : ℕ). kept_trace keeping m from only k b) none

-- ---- lines before it

behind_both : (first next : List ℕ) (t : Trace) → behind_lines first (behind_lines next t) ≡ behind_lines (first ++ next) t
behind_both first next t = ap (λ (l : List ℕ). record { text = l; count = t.count; end = t.end }) (sym (append_assoc first next t.text))

-- more lines were put
pub put_on : (whole rest next : Trace) (lines : List ℕ) (a b c : Option (List ℕ)) → HasPut whole rest a b → rest ≡ behind_lines lines next
    → Appends b c lines → HasPut whole next a c
put_on whole rest next lines a b c h is put = record {
  lines = h.lines ++ lines;
  whole_is = h.whole_is ∙ (ap (λ (t : Trace). behind_lines h.lines t) is ∙ behind_both h.lines lines next);
  text = appends_both a b c h.lines lines h.text put;
}

-- nothing was put yet
pub put_none : (whole : Trace) (a : Option (List ℕ)) → HasPut whole whole a a
put_none whole a = record { lines = []; whole_is = refl; text = appends_none a }

-- a front of what comes next was put
pub put_front : (whole rest : Trace) (piece after : List ℕ) (a b c : Option (List ℕ)) → HasPut whole rest a b → rest.text ≡ piece ++ after
    → AppendsFront b c piece → AppendsFront a c whole.text
put_front whole rest piece after a b c h is put =
    front_of a b c h.lines piece after whole.text h.text put
    (ap (λ (t : Trace). t.text) h.whole_is ∙ ap (λ (l : List ℕ). h.lines ++ l) is)

-- ---- steps

-- one step went
pub went_on : (keeping : Keeps) (m : Setting) (n from : ℕ) (only : Only) (whole : Trace) (now new : State) (a b c : Option (List ℕ))
    → HasPut whole (trace_to keeping m n from only now) a b → WentOn keeping m from only now new b c → now.step < n
    → HasPut whole (trace_to keeping m n from only new) a c
went_on keeping m n from only whole now new a b c h w below =
    put_on whole _ (trace_to keeping m n from only new) (line_if_printed m from only now new ++ lines_of (w.report).items) a b c h
    (trace_went keeping m n from only now new w.report w.went below) w.text

-- a step that stops
pub stops_there : (keeping : Keeps) (m : Setting) (n from : ℕ) (only : Only) (whole : Trace) (now new : State) (a b c : Option (List ℕ))
    (stop : Stop)
    → HasPut whole (trace_to keeping m n from only now) a b → StepPuts keeping m from only now new b c (Ok (pause.Stopped stop))
    → now.step < n → HasEnded whole new.step (Stopped stop) a c
stops_there keeping m n from only whole now new a b c stop h s below =
    let line = stop_line m from now in
    record {
      lines = h.lines ++ line;
      whole_is =
          h.whole_is
          ∙ (ap (λ (t : Trace). behind_lines h.lines t) (trace_stops keeping m n from only now stop s.0 below)
          ∙ (ap (λ (l : List ℕ). record { text = l; count = now.step; end = Stopped stop })
          (sym (append_assoc h.lines line (end_line now.step (Stopped stop))))
          ∙ ap (λ (k : ℕ). record { text = (h.lines ++ line) ++ end_line k (Stopped stop); count = k; end = Stopped stop }) (sym s.1)));
      text = appends_both a b c h.lines line h.text s.2;
    }

-- the last step is done
pub ends_there : (keeping : Keeps) (m : Setting) (n from : ℕ) (only : Only) (whole : Trace) (now : State) (a b : Option (List ℕ))
    → HasPut whole (trace_to keeping m n from only now) a b → now.step ≡ n → HasEnded whole now.step Bound a b
ends_there keeping m n from only whole now a b h at = record {
  lines = h.lines;
  whole_is = h.whole_is ∙ ap (λ (t : Trace). behind_lines h.lines t) (trace_ends keeping m n from only now at);
  text = h.text;
}

-- a step whose lines were cut
pub cut_there : (keeping : Keeps) (m : Setting) (n from : ℕ) (only : Only) (whole : Trace) (now new : State) (a b c : Option (List ℕ))
    → HasPut whole (trace_to keeping m n from only now) a b → IsCut keeping m from only now new b c → now.step < n
    → AppendsFront a c whole.text
cut_there keeping m n from only whole now new a b c h (Within report went q) below =
    put_front whole _ (line_if_printed m from only now new ++ lines_of report.items) (trace_to keeping m n from only new).text a b c h
    (ap (λ (t : Trace). t.text) (trace_went keeping m n from only now new report went below)) q
cut_there keeping m n from only whole now new a b c h (AtStop stop halts q) below =
    put_front whole _ (stop_line m from now) (end_line now.step (Stopped stop)) a b c h
    (ap (λ (t : Trace). t.text) (trace_stops keeping m n from only now stop halts below)) q

-- steps before the first that is printed
pub quiet : (keeping : Keeps) (m : Setting) (n from : ℕ) (only : Only) (old last : State) (reports : List Report)
    → KeptSteps keeping m old reports last → last.step ≤ from → last.step ≤ n
    → trace_to keeping m n from only old ≡ behind_lines (lines_of (trace_of reports)) (trace_to keeping m n from only last)
unfolding KeptSteps
quiet keeping m n from only old last [] h early le = sym (ap (λ (b : State). trace_to keeping m n from only b) h)
quiet keeping m n from only old last (now ∷ later) h early le =
    let one = kept_counts keeping m old h.0 now h.1 in
    let more = never_back keeping m h.0 last later h.2 in
    let line : line_if_printed m from only old h.0 ≡ [] = unprinted m from only old h.0 (omega (arith, one, more, early)) in
    let rest = trace_to keeping m n from only last in
    trace_went keeping m n from only old h.0 now h.1 (omega (arith, one, more, le))
    ∙ (ap (λ (l : List ℕ). behind_lines (l ++ lines_of now.items) (trace_to keeping m n from only h.0)) line
    ∙ (ap (λ (t : Trace). behind_lines (lines_of now.items) t) (quiet keeping m n from only h.0 last later h.2 early le)
    ∙ (behind_both (lines_of now.items) (lines_of (trace_of later)) rest
    ∙ ap (λ (l : List ℕ). behind_lines l rest) (sym (lines_join now.items (trace_of later))))))
