use Rattle.std.proofs.Common.{ℕ, ◌-◌, subst}
use Rattle.xlate_buffer.specs.declared.Buffer.{Buffer}
use Rattle.bare_machine.specs.Answers.{WholeAs}
use Rattle.bare_machine.specs.Machine.{state_of}
use Rattle.bare_machine.specs.Settings.{bare}
use Rattle.bare_machine.specs.Buffered.{buffered_run, in_buffer, kept_course}
use Rattle.bare_machine.specs.FreshTexts.{CourseAs}
use Rattle.bare_machine.proofs.Buffering.{buffered_answered, course_unbegun}
use Rattle.bare_machine.proofs.Wholes.{answered, unbegun}
use Rattle.bare_machine.proofs.run.run_bare.Goals as goal

pub returns-in-Ok-clause-run : goal.returns-in-Ok-clause-run
returns-in-Ok-clause-run g c =
    let started = c.in-Ok.ensures.begun in
    let ran =
    subst (λ (f : ℕ). WholeAs (bare c.args.image.now c.args.script.now.list f) c.args.n (state_of (λ (b : Buffer). b) c.in-Ok.machine)
    (g.O.Sink.taken c.args.out.now) (g.O.Sink.taken c.run_on.new.out) (g.O.Sink.faults c.args.out.now) (g.O.Sink.faults c.run_on.new.out)
    c.run_on.result) started.1 (c.run_on.ensures.whole c.args.image.now) in
    answered c.args.image.now c.args.script.now.list c.args.frames c.args.n (state_of (λ (b : Buffer). b) c.in-Ok.machine) _
    _ _ _ c.run_on.result
    started.0 (started.4 c.args.script.now.list) ran

pub returns-in-Err-clause-run : goal.returns-in-Err-clause-run
returns-in-Err-clause-run g c =
    unbegun c.args.image.now c.args.script.now.list c.args.frames c.args.n _ _ c.in-Err.fault c.in-Err.ensures.refused

pub returns-in-Ok-clause-buffered : goal.returns-in-Ok-clause-buffered
returns-in-Ok-clause-buffered g c =
    let started = c.in-Ok.ensures.begun in
    let first = state_of (λ (b : Buffer). b) c.in-Ok.machine in
    let ran =
    subst (λ (f : ℕ). CourseAs (kept_course in_buffer (bare c.args.image.now c.args.script.now.list f) (c.args.n - first.step) first)
    (g.O.Sink.taken c.args.out.now) (g.O.Sink.taken c.run_on.new.out) (g.O.Sink.faults c.args.out.now) (g.O.Sink.faults c.run_on.new.out)
    c.run_on.result) started.1 (c.run_on.ensures.course c.args.image.now) in
    buffered_answered c.args.image.now c.args.script.now.list c.args.frames c.args.n first _ _ _ _ c.run_on.result started.0 started.2
    (started.4 c.args.script.now.list) ran

pub returns-in-Err-clause-buffered : goal.returns-in-Err-clause-buffered
returns-in-Err-clause-buffered g c =
    course_unbegun c.args.image.now c.args.frames (buffered_run c.args.image.now c.args.script.now.list c.args.frames c.args.n) _ _
    c.in-Err.fault c.in-Err.ensures.refused
