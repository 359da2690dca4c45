-- The trace of a run with the lines of its steps.
use Rattle.std.specs.Prelude.{◌≡◌, ℕ, zero, suc, ◌-◌, ◌≤◌, List, ◌++◌}
use Rattle.std.specs.List.{flat_map}
use Rattle.board.specs.Scripts.{Events}
use Rattle.image_check.specs.Image.{Image}
use Rattle.run_trace.specs.declared.items.End.{End}
use Rattle.run_trace.specs.declared.items.End.TheVariants.{Bound, Stopped}
use Rattle.run_trace.specs.Text.{lines_of, end_line, text_of}
use Rattle.look_words.specs.Words.{Only}
use Rattle.machine_model.specs.State.{Setting, State, boot}
use Rattle.machine_model.specs.Step as steps
use Rattle.machine_model.specs.Step.{Report, Went, Halts}
use Rattle.machine_model.specs.Run.{Set, Run, Steps, stopping, trace_of}
use Rattle.machine_model.specs.Taken.{Taken, steps_by}
use Rattle.bare_mem.specs.Keeping.{Keeps}
use Rattle.bare_machine.specs.Settings.{bare}
use Rattle.bare_machine.specs.FreshRuns.{Course}
use Rattle.bare_machine.specs.Buffered.{kept_step, kept_course, in_buffer, buffered_run}
use Rattle.step_trace.specs.Lines.{line_if_printed, step_lines, stop_line, lines_of_stop}

-- what is put of a run, the count of steps at its end, and how it ends
pub record Trace : Type 0 where
  pub text : List ℕ
  pub count : ℕ
  pub end : End

-- a trace behind lines
abbrev pub behind_lines : List ℕ → Trace → Trace
behind_lines lines t = record { text = lines ++ t.text; count = t.count; end = t.end }

-- a step with its lines, and what comes after it
abbrev pub after_lines : Setting → ℕ → Only → State → steps.Result → (State → Trace) → Trace
after_lines m from only b (Went report new) later = behind_lines (line_if_printed m from only b new ++ lines_of report.items) (later new)
after_lines m from only b (Halts stop) later =
    record { text = stop_line m from b ++ end_line b.step (Stopped stop); count = b.step; end = Stopped stop }

-- at most so many steps with their lines, each by what the cache holds
unfoldable pub kept_trace : Keeps → Setting → (from : ℕ) → Only → ℕ → State → Trace
kept_trace keeping m from only zero b = record { text = end_line b.step Bound; count = b.step; end = Bound }
kept_trace keeping m from only (suc k) b =
    after_lines m from only b (kept_step keeping m b) (λ mid. kept_trace keeping m from only k mid)

-- up to a count of steps
abbrev pub trace_to : Keeps → Setting → (n from : ℕ) → Only → State → Trace
trace_to keeping m n from only b = kept_trace keeping m from only (n - b.step) b

-- the run of the image that `run --bare` makes, with the lines of its steps
abbrev pub buffered_trace : Image → Events → (frames n from : ℕ) → Only → Trace
buffered_trace image script frames n from only =
    kept_trace in_buffer (bare image script frames) from only n (boot (bare image script frames))

-- ---- its steps are those of the run

-- the lines of the steps that these translations give from a state
abbrev pub lines_by : Setting → ℕ → Only → State → List Set → List ℕ
lines_by m from only b sets = flat_map (step_lines m from only) (steps_by m b sets)

-- with the line of the step that stops and the last line
unfoldable pub trace_text : Setting → ℕ → Only → State → List Set → State → List Set → End → List ℕ
trace_text m from only b sets last stopping end =
    lines_by m from only b sets ++ lines_of_stop m from last stopping ++ end_line last.step end

-- A run of at most n steps has the reports and the end of this course, and the trace is its text with the lines of its steps.
pub record IsTraceOf (m : Setting) (n from : ℕ) (only : Only) (old : State) (c : Course) (t : Trace) : Type 0 where
  pub sets : List Set
  pub last : State
  pub run : Run m n old sets c.reports last c.end
  pub last_is : c.count ≡ last.step
  pub count_is : t.count ≡ c.count
  pub end_is : t.end ≡ c.end
  pub text_is : t.text ≡ trace_text m from only old sets last (stopping m n last c.end run.ends) c.end

-- whatever the cache keeps
abbrev pub EachTraceIsOfItsRun : Type 0
EachTraceIsOfItsRun =
    (keeping : Keeps) (m : Setting) (n from : ℕ) (only : Only) (old : State) → old.step ≤ n
    → IsTraceOf m n from only old (kept_course keeping m (n - old.step) old) (trace_to keeping m n from only old)

-- so the trace of an image is that of the run that `run --bare` makes of it
abbrev pub EachTraceIsOfTheBareRun : Type 0
EachTraceIsOfTheBareRun =
    (image : Image) (script : Events) (frames n from : ℕ) (only : Only)
    → IsTraceOf (bare image script frames) n from only (boot (bare image script frames)) (buffered_run image script frames n)
    (buffered_trace image script frames n from only)

-- The lines of the items of the steps, and the last line, are the text of the run: so it is what is left of the trace without the
-- lines that are added.
abbrev pub WithoutLines : Type 0
WithoutLines =
    (m : Setting) (old last : State) (sets : List Set) (reports : List Report) (end : End) → Steps m old sets reports last
    → flat_map (λ (t : Taken). lines_of t.report.items) (steps_by m old sets)
    ++ end_line last.step end ≡ text_of (trace_of reports) last.step end
