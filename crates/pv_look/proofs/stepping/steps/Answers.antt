use Rattle.std.proofs.Common.{refl}
use Rattle.look_words.specs.View.{run_view, only_view}
use Rattle.pv_tasks.proofs.Deliveries.{halts}
use Rattle.pv_tasks.proofs.RunMeanings.{no_run, run_means}
use Rattle.pv_tasks.proofs.Works.{WithFrames}
use Rattle.pv_look.specs.Stepping.{TracesBare, steps_task}
use Rattle.pv_look.proofs.Stepped.{ran_steps, steps_end, steps_told}
use Rattle.pv_look.proofs.stepping.steps.Goals as goal

pub returns-in-Err-clause-meaning : goal.returns-in-Err-clause-meaning
returns-in-Err-clause-meaning g c = λ completed memory.
    let run = run_view c.args.run in
    halts _ _ (steps_task run c.args.from c.args.to (only_view c.args.only)) _ c.end.result c.in-Err.halt
    (λ line none. no_run (WithFrames (TracesBare run.frames c.args.to c.args.from (only_view c.args.only)) run.frames)
    (g.F.Files.held c.args.files.now) run.image run.script line none)
    (λ finds. finds) c.in-Err.ensures.read.held refl c.in-Err.ensures.halted c.end.ensures

pub returns-in-Ok-clause-meaning : goal.returns-in-Ok-clause-meaning
returns-in-Ok-clause-meaning g c = λ completed memory.
    let run = run_view c.args.run in
    let only = only_view c.args.only in
    let found = c.in-Ok.found in
    run_means (steps_task run c.args.from c.args.to only) (TracesBare run.frames c.args.to c.args.from only) run.image run.script
    run.frames _ c.tell_run.result
    found.image found.script.list (steps_end run.frames c.args.to c.args.from only) (steps_told run.frames c.args.to c.args.from only)
    (λ w h. h) c.in-Ok.ensures.image c.in-Ok.ensures.script c.in-Ok.ensures.read.held
    (ran_steps found.image found.script.list run.frames c.args.to c.args.from only _ _ _ _ _ _ c.trace_steps-ran.result completed memory
    c.tell_run.result c.trace_steps-ran.ensures c.tell_run.ensures)
