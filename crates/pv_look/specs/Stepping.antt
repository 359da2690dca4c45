-- The work of `steps`: the image, then the script, then the trace of their run with the lines of its steps.
use Rattle.std.specs.Prelude.{◌≡◌, ℕ}
use Rattle.board.specs.Scripts.{Events}
use Rattle.image_check.specs.Image.{Image}
use Rattle.pv_build.specs.Scripts.{FindsRun}
use Rattle.pv_tasks.specs.Outcome.{Outcome, ended}
use Rattle.pv_tasks.specs.Running.{Runs}
use Rattle.pv_tasks.specs.Tasks.{Task, plain}
use Rattle.look_words.specs.Words.{RunAsked, Only}
use Rattle.step_trace.specs.Traces.{Trace, buffered_trace}

-- the run that `run --bare` makes, with the text of its trace
abbrev pub TracesBare : (frames n from : ℕ) → Only → Image → Events → Outcome → Type 0
TracesBare frames n from only image events w =
    let t : Trace = buffered_trace image events frames n from only in
    w ≡ ended t.end t.text

-- what `steps` asks for: up to the step n, with the lines of the steps from one on that are asked for
abbrev pub steps_task : RunAsked → (from n : ℕ) → Only → Task
steps_task run from n only =
    plain (λ files w. Runs (TracesBare run.frames n from only) run.frames files run.image run.script w)
    (λ files. FindsRun files run.image run.script)
