use Rattle.std.proofs.Common.{ℕ, ◌/◌, [], length, refl, ap, subst, arith}
use Rattle.machine_model.specs.State as model
use Rattle.machine_model.specs.State.{wedge}
use Rattle.wedge_step.specs.Scene.{scene, state_in}
use Rattle.wedge_core.specs.Surroundings.{Around, around}
use Rattle.wedge_core.specs.Counts.{Counts}
use Rattle.wedge_core.specs.OfRoots.{of_roots}
use Rattle.checkpoint.specs.Continued.{WedgeGoesTo}
use Rattle.checkpoint.specs.Moved.{rested_from}
use Rattle.checkpoint.proofs.GuestForms.{seated_between}
use Rattle.checkpoint.proofs.guest_run.continue_wedge.Goals as goal

pub whole-requires-clause-between : goal.whole-requires-clause-between
whole-requires-clause-between g c = seated_between _ _ _ _ c.in-Ok.ensures.goes_on

pub whole-requires-clause-filled : goal.whole-requires-clause-filled
whole-requires-clause-filled g c = c.in-Ok.ensures.goes_on.filled

pub whole-requires-clause-bare : goal.whole-requires-clause-bare
whole-requires-clause-bare g c =
    let goes = c.in-Ok.ensures.goes_on in
    record {
      empty_set = ap (λ (b : model.State). b.set) (goes.state []);
      two = goes.two;
      ample = (let all = goes.free in omega (arith, all));
      silent = refl;
    }

pub returns-in-Err : goal.returns-in-Err
returns-in-Err g c = record {
  run = (refl, refl, λ i. record { retired = c.guest_from.ensures.counts.retired i; passed = c.guest_from.ensures.counts.passed i });
}

pub returns-in-Ok : goal.returns-in-Ok
returns-in-Ok g c =
    let image = c.args.image.now in
    let script = c.args.script.now.list in
    let frames = length c.args.state.ram / 4096 in
    let goes = c.in-Ok.ensures.goes_on in
    let first = scene c.in-Ok.guest c.in-Ok.pool (g.H.Host.bytes c.guest_from.new.host) in
    let over = around g.H.Host g.O.Sink c.guest_from.new.host c.whole.new.host c.args.out.now c.whole.new.out in
    let memory = g.H.Host.bytes c.whole.new.host in
    let result = c.whole.result in
    let m = wedge image script frames in
    let here =
    subst (λ (f : ℕ). WedgeGoesTo (wedge image script f) c.args.n (state_in of_roots (wedge image script f) first) over memory result)
    goes.frames c.whole.ensures.whole in
    let rested = subst (λ (s : model.State). WedgeGoesTo m c.args.n s over memory result) (goes.state script) here in
    let counted : Counts → Around = λ x. record over { counts = x } in
    record {
      run = subst (λ (x : Counts). WedgeGoesTo m c.args.n (rested_from c.args.state) (counted x) memory result)
          (λ i. record { retired = c.guest_from.ensures.counts.retired i; passed = c.guest_from.ensures.counts.passed i }) rested;
    }
