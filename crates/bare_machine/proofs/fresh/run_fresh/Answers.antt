use Rattle.std.proofs.Common.{ℕ, Ok, subst, sym}
use Rattle.xlate_buffer.specs.declared.Buffer.{Buffer}
use Rattle.bare_machine.specs.FreshRuns.{fresh_course}
use Rattle.bare_machine.specs.FreshTexts.{CourseAs}
use Rattle.bare_machine.specs.declared.machine.BareMachine.{BareMachine}
use Rattle.bare_machine.specs.Machine.{state_of}
use Rattle.bare_machine.specs.Settings.{bare}
use Rattle.bare_machine.specs.Starts.{StartedAs}
use Rattle.bare_machine.proofs.Freshly.{fresh_answered, fresh_run_answered, fresh_unbegun}
use Rattle.bare_machine.proofs.Wholes.{unbegun}
use Rattle.bare_machine.proofs.fresh.run_fresh.Goals as goal

pub returns-in-Ok-clause-fresh : goal.returns-in-Ok-clause-fresh
returns-in-Ok-clause-fresh g c =
    let e = λ (b : Buffer). b in
    let started = subst (λ (m : BareMachine Buffer). StartedAs e c.args.image.now c.args.frames (Ok m)) (sym c.into_machine-machine.ensures)
    c.in-Ok.ensures.begun in
    let ran =
    subst (λ (f : ℕ). CourseAs
    (fresh_course (bare c.args.image.now c.args.script.now.list f) c.args.n (state_of e c.into_machine-machine.result))
    (g.O.Sink.taken c.args.out.now) (g.O.Sink.taken c.course.new.out) (g.O.Sink.faults c.args.out.now) (g.O.Sink.faults c.course.new.out)
    c.course.result) started.1 (c.course.ensures.course c.args.image.now) in
    fresh_answered c.args.image.now c.args.script.now.list c.args.frames c.args.n (state_of e c.into_machine-machine.result) _ _ _ _
    c.course.result started.0 (started.4 c.args.script.now.list) ran

pub returns-in-Ok-clause-run : goal.returns-in-Ok-clause-run
returns-in-Ok-clause-run g c =
    let e = λ (b : Buffer). b in
    let started = subst (λ (m : BareMachine Buffer). StartedAs e c.args.image.now c.args.frames (Ok m)) (sym c.into_machine-machine.ensures)
    c.in-Ok.ensures.begun in
    let ran =
    subst (λ (f : ℕ). CourseAs
    (fresh_course (bare c.args.image.now c.args.script.now.list f) c.args.n (state_of e c.into_machine-machine.result))
    (g.O.Sink.taken c.args.out.now) (g.O.Sink.taken c.course.new.out) (g.O.Sink.faults c.args.out.now) (g.O.Sink.faults c.course.new.out)
    c.course.result) started.1 (c.course.ensures.course c.args.image.now) in
    fresh_run_answered c.args.image.now c.args.script.now.list c.args.frames c.args.n (state_of e c.into_machine-machine.result) _ _ _ _
    c.course.result started.0 started.2 (started.4 c.args.script.now.list) ran

pub returns-in-Err-clause-run : goal.returns-in-Err-clause-run
returns-in-Err-clause-run g c =
    unbegun c.args.image.now c.args.script.now.list c.args.frames c.args.n _ _ c.in-Err.fault c.in-Err.ensures.refused

pub returns-in-Err-clause-fresh : goal.returns-in-Err-clause-fresh
returns-in-Err-clause-fresh g c =
    fresh_unbegun c.args.image.now c.args.script.now.list c.args.frames c.args.n _ _ c.in-Err.fault c.in-Err.ensures.refused
