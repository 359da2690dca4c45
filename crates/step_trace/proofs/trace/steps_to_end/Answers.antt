use Rattle.std.proofs.Common.{ℕ, subst}
use Rattle.run_trace.specs.declared.items.End.{End}
use Rattle.bare_machine.specs.Ending.{EndsAs}
use Rattle.step_trace.proofs.Ends.{ended}
use Rattle.step_trace.proofs.trace.steps_to_end.Goals as goal

pub returns-in-Err : goal.returns-in-Err
returns-in-Err g c = λ image whole told h. (c.in-Err.ensures.pauses image whole told h, c.in-Err.ensures.cause)

pub returns-in-Ok : goal.returns-in-Ok
returns-in-Ok g c = λ image whole told h.
    let taken = g.O.Sink.taken in
    let faults = g.O.Sink.faults in
    let ends =
    subst (λ (x : End). EndsAs c.steps_on.new.machine.step x (taken c.steps_on.new.out) (taken c.end_run.new.out)
    (faults c.steps_on.new.out) (faults c.end_run.new.out) c.end_run.result) c.end_of.ensures
    (subst (λ (k : ℕ). EndsAs k c.end_of.result (taken c.steps_on.new.out) (taken c.end_run.new.out) (faults c.steps_on.new.out)
    (faults c.end_run.new.out) c.end_run.result) c.step-steps.ensures c.end_run.ensures.ends) in
    ended whole c.steps_on.new.machine.step _ told _ _ _ _ _ c.end_run.result (c.in-Ok.ensures.pauses image whole told h)
    c.in-Ok.ensures.kept ends
