use Rattle.std.proofs.Common.{◌≡◌, ℕ, ◌/◌, length, subst, arith}
use Rattle.xlate_buffer.specs.declared.Buffer.{Buffer}
use Rattle.machine_model.specs.State as model
use Rattle.bare_machine.specs.Machine.{state_of}
use Rattle.bare_machine.specs.Settings.{bare}
use Rattle.checkpoint.specs.RestAnswers.{RestsAs, no_counts}
use Rattle.checkpoint.proofs.bare_rest.save_bare_from.Goals as goal

pub returns : goal.returns
returns g c = record {
  rests = λ image.
      let machine = c.bare_from-machine.result in
      let e = c.bare_from-machine.ensures.frames in
      let frames : machine.frames ≡ length c.args.state.ram / 4096 = omega (arith, e) in
      let script = c.args.script.now.list in
      let told = g.O.Sink.taken c.args.out.now in
      let tells = g.O.Sink.taken c.rest_bare.new.out in
      let before = g.O.Sink.faults c.args.out.now in
      let now = g.O.Sink.faults c.rest_bare.new.out in
      let first = state_of (λ (b : Buffer). b) machine in
      let ran = subst (λ (f : ℕ). RestsAs (bare image script f) c.args.n first no_counts told tells before now c.rest_bare.result) frames
      (c.rest_bare.ensures.rests image) in
      subst (λ (b : model.State). RestsAs (bare image script (length c.args.state.ram / 4096)) c.args.n b no_counts told tells before
      now c.rest_bare.result)
      c.bare_from-machine.ensures.state ran;
}
