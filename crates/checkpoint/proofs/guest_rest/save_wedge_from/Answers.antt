use Rattle.std.proofs.Common.{ℕ, ◌/◌, length, subst}
use Rattle.machine_model.specs.State as model
use Rattle.machine_model.specs.State.{wedge}
use Rattle.wedge_step.specs.Scene.{scene, state_in}
use Rattle.wedge_core.specs.Counts.{Counts, counts_of}
use Rattle.wedge_core.specs.OfRoots.{of_roots}
use Rattle.checkpoint.specs.Moved.{rested_from}
use Rattle.checkpoint.specs.RestAnswers.{RestsAs, host_counts}
use Rattle.checkpoint.proofs.GuestForms.{seated_between}
use Rattle.checkpoint.proofs.guest_rest.save_wedge_from.Goals as goal

pub rest_wedge-requires-clause-between : goal.rest_wedge-requires-clause-between
rest_wedge-requires-clause-between g c = seated_between _ _ _ _ c.in-Ok.ensures.goes_on

pub rest_wedge-requires-clause-filled : goal.rest_wedge-requires-clause-filled
rest_wedge-requires-clause-filled g c = c.in-Ok.ensures.goes_on.filled

pub returns-in-Ok : goal.returns-in-Ok
returns-in-Ok g c =
    let image = c.args.image.now in
    let script = c.args.script.now.list in
    let frames = length c.args.state.ram / 4096 in
    let goes = c.in-Ok.ensures.goes_on in
    let first = scene c.in-Ok.guest c.in-Ok.pool (g.H.Host.bytes c.guest_from.new.host) in
    let begun = counts_of g.H.Host c.guest_from.new.host in
    let after = counts_of g.H.Host c.rest_wedge.new.host in
    let told = g.O.Sink.taken c.args.out.now in
    let tells = g.O.Sink.taken c.rest_wedge.new.out in
    let fell = g.O.Sink.faults c.args.out.now in
    let now = g.O.Sink.faults c.rest_wedge.new.out in
    let result = c.rest_wedge.result in
    let m = wedge image script frames in
    let here =
    subst (λ (f : ℕ). RestsAs (wedge image script f) c.args.n (state_in of_roots (wedge image script f) first)
    (host_counts (wedge image script f) begun after) told tells fell now result)
    goes.frames c.rest_wedge.ensures.rests in
    let rested =
    subst (λ (s : model.State). RestsAs m c.args.n s (host_counts m begun after) told tells fell now result) (goes.state script) here in
    record {
      rests = subst (λ (x : Counts). RestsAs m c.args.n (rested_from c.args.state) (host_counts m x after) told tells fell now result)
          (λ i. record { retired = c.guest_from.ensures.counts.retired i; passed = c.guest_from.ensures.counts.passed i }) rested;
    }
