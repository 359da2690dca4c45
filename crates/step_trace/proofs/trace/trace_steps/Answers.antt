use Rattle.std.proofs.Common.{ℕ, subst}
use Rattle.xlate_buffer.specs.declared.Buffer.{Buffer}
use Rattle.look_words.specs.View.{only_view}
use Rattle.bare_machine.specs.Buffered.{in_buffer}
use Rattle.bare_machine.specs.Machine.{state_of}
use Rattle.bare_machine.specs.Settings.{bare}
use Rattle.step_trace.specs.Answers.{TracesAs}
use Rattle.step_trace.specs.Traces.{trace_to}
use Rattle.step_trace.proofs.Ends.{answered}
use Rattle.step_trace.proofs.trace.trace_steps.Goals as goal

pub returns-in-Ok : goal.returns-in-Ok
returns-in-Ok g c =
    let started = c.in-Ok.ensures.started in
    let only = only_view c.args.only.now in
    let first = state_of (λ (b : Buffer). b) c.in-Ok.machine in
    let ran =
    subst (λ (f : ℕ). TracesAs (trace_to in_buffer (bare c.args.image.now c.args.script.now.list f) c.args.n c.args.from only first)
    (g.O.Sink.taken c.args.out.now) (g.O.Sink.taken c.trace_on.new.out) (g.O.Sink.faults c.args.out.now)
    (g.O.Sink.faults c.trace_on.new.out) c.trace_on.result) started.1 (c.trace_on.ensures c.args.image.now) in
    answered c.args.image.now c.args.script.now.list c.args.frames c.args.n c.args.from only first _ _ _ _ c.trace_on.result started.0
    started.2 (started.4 c.args.script.now.list) ran
