-- What the trace of a run with its steps answers.
use Rattle.std.specs.Prelude.{◌≡◌, ℕ, ◌≤◌, ◌<◌, List, ◌++◌, Option, Result, Ok, Err}
use Rattle.pv_io.specs.Causes.{Rose}
use Rattle.pv_io.specs.Sink.{Appends, AppendsFront}
use Rattle.pv_io.specs.declared.answer.Failed.{Failed}
use Rattle.image_check.specs.Image.{Image}
use Rattle.image_load.specs.Boot.{need}
use Rattle.image_load.specs.declared.fault.RunFault.{RunFault}
use Rattle.image_load.specs.declared.fault.RunFault.TheVariants as fault
use Rattle.ia32_types.specs.declared.stop.Stop.{Stop}
use Rattle.run_trace.specs.declared.items.End.{End}
use Rattle.run_trace.specs.declared.items.Ended.{Ended}
use Rattle.run_trace.specs.Pauses.{end_of}
use Rattle.run_trace.specs.Text.{lines_of, end_line}
use Rattle.run_trace.specs.declared.pause.Pause.{Pause}
use Rattle.run_trace.specs.declared.pause.Pause.TheVariants as pause
use Rattle.look_words.specs.Words.{Only}
use Rattle.machine_model.specs.State.{Setting, State}
use Rattle.machine_model.specs.Step.{Report, Went, Halts, step_of}
use Rattle.bare_mem.specs.Keeping.{Keeps}
use Rattle.bare_machine.specs.Buffered.{kept_step}
use Rattle.step_trace.specs.Lines.{line_if_printed, stop_line}
use Rattle.step_trace.specs.Traces.{Trace, behind_lines}

-- ---- one step

-- A step by what the cache holds went, which holds then exactly what it keeps, and its lines were put.
pub record WentOn (keeping : Keeps) (m : Setting) (from : ℕ) (only : Only) (b new : State) (told tells : Option (List ℕ)) : Type 0 where
  pub report : Report
  pub went : kept_step keeping m b ≡ Went report new
  pub text : Appends told tells (line_if_printed m from only b new ++ lines_of report.items)

-- it went, and a front of its lines was put; or it stops, and a front of its line was
pub data IsCut (keeping : Keeps) (m : Setting) (from : ℕ) (only : Only) (b new : State) (told tells : Option (List ℕ)) : Type 0 where
  Within : (report : Report) → kept_step keeping m b ≡ Went report new
      → AppendsFront told tells (line_if_printed m from only b new ++ lines_of report.items) → IsCut keeping m from only b new told tells
  AtStop : (stop : Stop) → step_of m b b.set ≡ Halts stop → AppendsFront told tells (stop_line m from b)
      → IsCut keeping m from only b new told tells

abbrev pub StepPuts : Keeps → Setting → ℕ → Only → (b new : State) → Option (List ℕ) → Option (List ℕ) → Result Pause Failed → Type 0
StepPuts keeping m from only b new told tells (Ok pause.Reached) = WentOn keeping m from only b new told tells
StepPuts keeping m from only b new told tells (Ok (pause.Stopped stop)) =
    (step_of m b b.set ≡ Halts stop) × (new.step ≡ b.step) × Appends told tells (stop_line m from b)
StepPuts keeping m from only b new told tells (Err failed) = IsCut keeping m from only b new told tells

-- ---- several

-- lines were put, after which the rest of a whole trace is this
pub record HasPut (whole rest : Trace) (told tells : Option (List ℕ)) : Type 0 where
  pub lines : List ℕ
  pub whole_is : whole ≡ behind_lines lines rest
  pub text : Appends told tells lines

-- all of a trace was put but its last line, which tells this count of steps and this end
pub record HasEnded (whole : Trace) (count : ℕ) (end : End) (told tells : Option (List ℕ)) : Type 0 where
  pub lines : List ℕ
  pub whole_is : whole ≡ record { text = lines ++ end_line count end; count = count; end = end }
  pub text : Appends told tells lines

-- what was put of a trace where the steps pause
abbrev pub PausesWith : Trace → ℕ → Option (List ℕ) → Option (List ℕ) → Result Pause Failed → Type 0
PausesWith whole count told tells (Ok pause) = HasEnded whole count (end_of pause) told tells
PausesWith whole count told tells (Err failed) = AppendsFront told tells whole.text

-- the trace was put and the sink's count of faults is as it was; or the sink failed within it
abbrev pub TracesAs : Trace → Option (List ℕ) → Option (List ℕ) → ℕ → ℕ → Result Ended RunFault → Type 0
TracesAs t old new before now (Ok ended) =
    (ended ≡ record { steps = t.count; end = t.end; fills = 0 }) × Appends old new t.text × (now ≡ before)
TracesAs t old new before now (Err fault.Write) = AppendsFront old new t.text × Rose before now
TracesAs t old new before now (Err (fault.TooSmall small)) = ⊥
TracesAs t old new before now (Err fault.Memory) = ⊥

-- The answer of the whole trace of an image, as that of a run.
abbrev pub TraceAnswers : Image → (frames : ℕ) → Trace → Option (List ℕ) → Option (List ℕ) → ℕ → ℕ → Result Ended RunFault → Type 0
TraceAnswers image frames t old new before now (Ok ended) = (need image ≤ frames) × TracesAs t old new before now (Ok ended)
TraceAnswers image frames t old new before now (Err fault.Write) = (need image ≤ frames) × TracesAs t old new before now (Err fault.Write)
TraceAnswers image frames t old new before now (Err (fault.TooSmall small)) =
    (frames < need image) × (small ≡ record { need = need image; have = frames }) × (new ≡ old) × (now ≡ before)
TraceAnswers image frames t old new before now (Err fault.Memory) = (new ≡ old) × (now ≡ before)
