use Rattle.std.proofs.Common.{ℕ, [], ◌+◌, ◌≤◌, subst, arith}
use Rattle.machine_model.specs.State as model
use Rattle.machine_model.specs.State.{wedge}
use Rattle.wedge_step.specs.Scene.{free, scene, state_in}
use Rattle.wedge_core.specs.Counts.{Counts, counts_of}
use Rattle.wedge_core.specs.OfRoots.{of_roots}
use Rattle.checkpoint.specs.RestAnswers.{RestsAs, host_counts}
use Rattle.checkpoint.proofs.GuestForms.{between}
use Rattle.checkpoint.proofs.Resting.{from_start}
use Rattle.checkpoint.proofs.guest_rest.save_wedge.Goals as goal

pub rest_wedge-requires-clause-between : goal.rest_wedge-requires-clause-between
rest_wedge-requires-clause-between g c =
    let s = c.in-Ok.ensures.started in
    let b = s.4 [] in
    let all = b.all in
    let count = s.3 in
    let new = scene c.in-Ok.guest c.in-Ok.pool (g.H.Host.bytes c.start.new.host) in
    let enough : 16 ≤ free new + new.guest.held = omega (arith, all, count) in
    between c.args.image.now c.args.frames new b.held c.in-Ok.ensures.ready enough

pub rest_wedge-requires-clause-filled : goal.rest_wedge-requires-clause-filled
rest_wedge-requires-clause-filled g c = c.in-Ok.ensures.filled

pub returns-in-Ok : goal.returns-in-Ok
returns-in-Ok g c =
    let image = c.args.image.now in
    let script = c.args.script.now.list in
    let started = c.in-Ok.ensures.started in
    let b = started.4 script in
    let first = scene c.in-Ok.guest c.in-Ok.pool (g.H.Host.bytes c.start.new.host) in
    let before = counts_of g.H.Host c.args.host.now in
    let begun = counts_of g.H.Host c.start.new.host in
    let after = counts_of g.H.Host c.rest_wedge.new.host in
    let told = g.O.Sink.taken c.args.out.now in
    let tells = g.O.Sink.taken c.rest_wedge.new.out in
    let fell = g.O.Sink.faults c.args.out.now in
    let now = g.O.Sink.faults c.rest_wedge.new.out in
    let result = c.rest_wedge.result in
    let m = wedge image script c.args.frames in
    let here =
    subst (λ (f : ℕ). RestsAs (wedge image script f) c.args.n (state_in of_roots (wedge image script f) first)
    (host_counts (wedge image script f) begun after) told tells fell now result)
    b.held.frames_are c.rest_wedge.ensures.rests in
    let at_boot = subst (λ (s : model.State). RestsAs m c.args.n s (host_counts m begun after) told tells fell now result) b.state here in
    let counted = subst (λ (x : Counts). RestsAs m c.args.n (model.boot m) (host_counts m x after) told tells fell now result)
    (λ i. record { retired = c.start.ensures.counts.retired i; passed = c.start.ensures.counts.passed i }) at_boot in
    record { rests = from_start m c.args.n (host_counts m before after) told tells fell now result started.0 counted }
