use Rattle.xlate_buffer.specs.declared.Buffer.{Buffer}
use Rattle.look_words.specs.View.{aspect_view}
use Rattle.bare_machine.specs.Machine.{state_of}
use Rattle.pv_look.proofs.Bounds.{seen_whole, seen_stop}
use Rattle.pv_look.proofs.before.look_at.Goals as goal

pub returns-in-Reached-clause-look : goal.returns-in-Reached-clause-look
returns-in-Reached-clause-look c =
    let found = c.args.found.now in
    let started = c.in-Ok.ensures.started in
    seen_whole found.image found.script.list _ c.args.frames (aspect_view c.args.aspect) c.args.bound c.args.steps.now
    (state_of (λ (b : Buffer). b) c.in-Ok.machine) (state_of (λ (b : Buffer). b) c.add_moments.new.machine) _ c.add_moments.new.text.items
    started.1 (started.4 found.script.list) c.new-text.ensures.items (rw c.in-Reached.is at c.in-Ok-add_moments.ensures found.image)

pub returns-clause-look : goal.returns-clause-look
returns-clause-look c =
    let found = c.args.found.now in
    let started = c.in-Ok.ensures.started in
    seen_stop found.image found.script.list _ c.args.frames (aspect_view c.args.aspect) c.args.bound c.args.steps.now
    (state_of (λ (b : Buffer). b) c.in-Ok.machine) _ c.step.result c.in-Stopped.stop
    started.1 (started.4 found.script.list) c.step.ensures (rw c.in-Stopped.is at c.in-Ok-add_moments.ensures found.image)
