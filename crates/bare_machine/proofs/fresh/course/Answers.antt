use Rattle.bare_machine.proofs.Freshly.{course_ended}
use Rattle.bare_machine.proofs.fresh.course.Goals as goal

pub returns-in-Err : goal.returns-in-Err
returns-in-Err g c = record {
  course = λ image. c.in-Err.ensures.steps image;
}

pub returns-in-Ok : goal.returns-in-Ok
returns-in-Ok g c = record {
  course = λ image.
      let h = c.in-Ok.ensures.steps image in
      course_ended _ c.fresh_steps.new.machine.step c.in-Ok.end _ _ _ _ (g.O.Sink.faults c.fresh_steps.new.out) _ c.end_run.result h.0 h.1
      c.end_run.ensures.ends;
}
