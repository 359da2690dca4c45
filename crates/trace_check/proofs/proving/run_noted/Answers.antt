use Rattle.std.proofs.Common.{◌≡◌, ℕ, [], sym, subst, arith}
use Rattle.machine_model.specs.State.{boot, wedge}
use Rattle.wedge_step.specs.Scene.{scene, state_in}
use Rattle.wedge_step.specs.Standing.{ground}
use Rattle.wedge_core.specs.Surroundings.{Around, around}
use Rattle.wedge_core.specs.Counts.{Counts, counts_of}
use Rattle.wedge_core.specs.OfRoots.{of_roots}
use Rattle.wedge_core.specs.Scenes.{IsHeldIn, IsReadyIn}
use Rattle.trace_check.specs.Noted.{NotedAnswers}
use Rattle.trace_check.proofs.proving.run_noted.Goals as goal

pub whole-requires-clause-between : goal.whole-requires-clause-between
whole-requires-clause-between g c =
    let b = c.in-Ok.ensures.started.4 [] in
    let running = c.in-Ok.guest in
    let memory = g.H.Host.bytes c.start.new.host in
    let all = b.all in
    let count = c.in-Ok.ensures.started.3 in
    record {
      held = subst (λ (f : ℕ). IsHeldIn of_roots (ground c.args.image.now f) (scene running c.in-Ok.pool memory))
          (sym b.held.frames_are) b.held;
      ready = subst (λ (f : ℕ). IsReadyIn of_roots (ground c.args.image.now f) (scene running c.in-Ok.pool memory)) (sym b.held.frames_are)
          c.in-Ok.ensures.ready;
      enough = omega (arith, all, count);
    }

pub whole-requires-clause-able : goal.whole-requires-clause-able
whole-requires-clause-able g c = let b = c.in-Ok.ensures.started.4 [] in b.able

pub whole-requires-clause-fits : goal.whole-requires-clause-fits
whole-requires-clause-fits g c =
    let b = c.in-Ok.ensures.started.4 [] in
    let frames = b.held.frames_are in
    let fits = c.in-Ok.ensures.started.0 in
    omega (arith, frames, fits)

pub whole-requires-clause-first : goal.whole-requires-clause-first
whole-requires-clause-first g c =
    let b = c.in-Ok.ensures.started.4 c.args.script.now.list in
    subst (λ (f : ℕ). state_in of_roots (wedge c.args.image.now c.args.script.now.list f)
    (scene c.in-Ok.guest c.in-Ok.pool (g.H.Host.bytes c.start.new.host)) ≡ boot (wedge c.args.image.now c.args.script.now.list f))
    (sym b.held.frames_are) b.state

pub whole-requires-clause-unfilled : goal.whole-requires-clause-unfilled
whole-requires-clause-unfilled g c = let b = c.in-Ok.ensures.started.4 [] in b.fills

pub whole-requires-clause-none : goal.whole-requires-clause-none
whole-requires-clause-none g c =
    let b = c.in-Ok.ensures.started.4 [] in
    let none = b.fills in
    let filled = c.in-Ok.ensures.filled in
    omega (arith, none, filled)

pub returns-in-Ok : goal.returns-in-Ok
returns-in-Ok g c =
    let b = c.in-Ok.ensures.started.4 [] in
    let image = c.args.image.now in
    let script = c.args.script.now.list in
    let here : Counts → Around =
    λ counts. record (around g.H.Host g.O.Sink c.start.new.host c.whole.new.host c.args.out.now c.whole.new.out) { counts = counts } in
    let memory = g.H.Host.bytes c.whole.new.host in
    let begun = counts_of g.H.Host c.start.new.host in
    let done = subst (λ (f : ℕ). NotedAnswers image script f c.args.n c.whole.new.notes (here begun) memory c.whole.result)
    b.held.frames_are c.whole.ensures.whole in
    record {
      run = subst (λ (x : Counts). NotedAnswers image script c.args.frames c.args.n c.whole.new.notes (here x) memory c.whole.result)
          (λ i. record { retired = c.start.ensures.counts.retired i; passed = c.start.ensures.counts.passed i }) done;
    }
