use Rattle.std.proofs.Common.{ℕ, sym, subst}
use Rattle.xlate_buffer.specs.declared.Buffer.{Buffer}
use Rattle.machine_model.specs.State as model
use Rattle.machine_model.specs.Fit.{Fit}
use Rattle.bare_machine.specs.Machine.{state_of}
use Rattle.bare_machine.specs.Settings.{bare}
use Rattle.checkpoint.specs.RestAnswers.{RestsAs, no_counts}
use Rattle.checkpoint.proofs.Resting.{from_start}
use Rattle.checkpoint.proofs.bare_rest.save_bare.Goals as goal

pub rest_bare-requires-clause-fit : goal.rest_bare-requires-clause-fit
rest_bare-requires-clause-fit g c =
    let script = c.args.script.now.list in
    subst (λ (b : model.State). Fit b.cpu) (sym (c.in-Ok.ensures.started.4 script))
    (c.each_run_begins_fit.ensures (bare c.args.image.now script c.args.frames))

pub returns-in-Ok : goal.returns-in-Ok
returns-in-Ok g c =
    let started = c.in-Ok.ensures.started in
    let image = c.args.image.now in
    let script = c.args.script.now.list in
    let told = g.O.Sink.taken c.args.out.now in
    let tells = g.O.Sink.taken c.rest_bare.new.out in
    let before = g.O.Sink.faults c.args.out.now in
    let now = g.O.Sink.faults c.rest_bare.new.out in
    let first = state_of (λ (b : Buffer). b) c.in-Ok.machine in
    let ran = subst (λ (f : ℕ). RestsAs (bare image script f) c.args.n first no_counts told tells before now c.rest_bare.result) started.1
    (c.rest_bare.ensures.rests image) in
    let m = bare image script c.args.frames in
    record {
      rests = from_start m c.args.n no_counts told tells before now c.rest_bare.result started.0
          (subst (λ (b : model.State). RestsAs m c.args.n b no_counts told tells before now c.rest_bare.result) (started.4 script) ran);
    }
