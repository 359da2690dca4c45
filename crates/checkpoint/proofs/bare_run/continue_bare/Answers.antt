use Rattle.std.proofs.Common.{◌≡◌, ℕ, ◌/◌, length, subst, arith}
use Rattle.machine_model.specs.State as model
use Rattle.bare_machine.specs.Answers.{WholeAs}
use Rattle.bare_machine.specs.Settings.{bare}
use Rattle.checkpoint.specs.Moved.{rested_from}
use Rattle.checkpoint.proofs.bare_run.continue_bare.Goals as goal

pub returns-clause-whole : goal.returns-clause-whole
returns-clause-whole g c = λ image.
    let machine = c.bare_from-machine.result in
    let e = c.bare_from-machine.ensures.frames in
    let frames : machine.frames ≡ length c.args.state.ram / 4096 = omega (arith, e) in
    let ran =
    subst (λ (b : model.State). WholeAs (bare image c.args.script.now.list machine.frames) c.args.n b (g.O.Sink.taken c.args.out.now)
    (g.O.Sink.taken c.run_on.new.out) (g.O.Sink.faults c.args.out.now) (g.O.Sink.faults c.run_on.new.out) c.run_on.result)
    c.bare_from-machine.ensures.state (c.run_on.ensures.whole image) in
    subst (λ (f : ℕ). WholeAs (bare image c.args.script.now.list f) c.args.n (rested_from c.args.state) (g.O.Sink.taken c.args.out.now)
    (g.O.Sink.taken c.run_on.new.out) (g.O.Sink.faults c.args.out.now) (g.O.Sink.faults c.run_on.new.out) c.run_on.result) frames ran
