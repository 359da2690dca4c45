use Rattle.std.proofs.Common.{◌≡◌, ℕ, ◌+◌, [], length, sym, subst, ◌∙◌, arith}
use Rattle.frame_pool.specs.Pool.{free_list}
use Rattle.wedge_core.specs.OfRoots.{of_roots}
use Rattle.machine_model.specs.State.{boot, wedge}
use Rattle.wedge_core.proofs.AnsweredBy.{WedgeAnswers}
use Rattle.wedge_core.specs.Slices.{Counts}
use Rattle.wedge_step.specs.Ready.{IsReady}
use Rattle.wedge_step.specs.Standing.{IsHeld, ground, state_of}
use Rattle.wedge_core.proofs.run.run_wedge.Goals as goal

pub whole-requires-clause-between : goal.whole-requires-clause-between
whole-requires-clause-between g c = record {
  held =
      let b = c.in-Ok.ensures.started.4 [] in
      subst (λ (f : ℕ). IsHeld of_roots (ground c.args.image.now f) c.in-Ok.guest c.in-Ok.pool (g.H.Host.bytes c.start.new.host))
      (sym b.held.frames_are) b.held;
  ready =
      let b = c.in-Ok.ensures.started.4 [] in
      subst (λ (f : ℕ). IsReady of_roots (ground c.args.image.now f) c.in-Ok.guest.cpu c.in-Ok.guest.shadows
      (g.H.Host.bytes c.start.new.host)) (sym b.held.frames_are) c.in-Ok.ensures.ready;
  enough =
      let b = c.in-Ok.ensures.started.4 [] in
      let all = b.all in
      let count = c.in-Ok.ensures.started.3 in
      let pool = c.requires.pool in
      omega (arith, all, count, pool);
}

pub whole-requires-clause-able : goal.whole-requires-clause-able
whole-requires-clause-able g c = let b = c.in-Ok.ensures.started.4 [] in b.able

pub whole-requires-clause-fits : goal.whole-requires-clause-fits
whole-requires-clause-fits g c =
    let b = c.in-Ok.ensures.started.4 [] in
    let frames = b.held.frames_are in
    let fits = c.in-Ok.ensures.started.0 in
    omega (arith, frames, fits)

pub whole-requires-clause-first : goal.whole-requires-clause-first
whole-requires-clause-first g c =
    let b = c.in-Ok.ensures.started.4 c.args.script.now.list in
    subst (λ (f : ℕ). state_of of_roots (wedge c.args.image.now c.args.script.now.list f) c.in-Ok.guest (g.H.Host.bytes c.start.new.host)
    ≡ boot (wedge c.args.image.now c.args.script.now.list f)) (sym b.held.frames_are) b.state

pub returns-in-Ok : goal.returns-in-Ok
returns-in-Ok g c =
    let b = c.in-Ok.ensures.started.4 [] in
    let image = c.args.image.now in
    let script = c.args.script.now.list in
    let after : Counts = record { retired = g.H.Host.retired c.whole.new.host; passed = g.H.Host.passed c.whole.new.host } in
    let begun : Counts = record { retired = g.H.Host.retired c.start.new.host; passed = g.H.Host.passed c.start.new.host } in
    let frames_are = b.held.frames_are in
    let count = c.in-Ok.ensures.started.3 in
    let here =
    subst (λ (f : ℕ). WedgeAnswers image script f c.args.n
    (length (free_list c.in-Ok.pool (g.H.Host.bytes c.start.new.host)) + c.in-Ok.guest.held) (g.O.Sink.taken c.args.out.now)
    (g.O.Sink.taken c.whole.new.out) (g.O.Sink.faults c.args.out.now) (g.O.Sink.faults c.whole.new.out) begun after
    (g.H.Host.bytes c.whole.new.host) c.whole.result) frames_are c.whole.ensures.whole in
    let of_pool =
    subst (λ (p : ℕ). WedgeAnswers image script c.args.frames c.args.n p (g.O.Sink.taken c.args.out.now) (g.O.Sink.taken c.whole.new.out)
    (g.O.Sink.faults c.args.out.now) (g.O.Sink.faults c.whole.new.out) begun after (g.H.Host.bytes c.whole.new.host) c.whole.result)
    (b.all ∙ count) here in
    record {
      run =
          subst (λ (x : Counts). WedgeAnswers image script c.args.frames c.args.n c.args.pool (g.O.Sink.taken c.args.out.now)
          (g.O.Sink.taken c.whole.new.out) (g.O.Sink.faults c.args.out.now) (g.O.Sink.faults c.whole.new.out) x after
          (g.H.Host.bytes c.whole.new.host) c.whole.result)
          (λ i. record { retired = c.start.ensures.counts.retired i; passed = c.start.ensures.counts.passed i }) of_pool;
    }

pub whole-requires-clause-unfilled : goal.whole-requires-clause-unfilled
whole-requires-clause-unfilled g c = let b = c.in-Ok.ensures.started.4 [] in b.fills

pub whole-requires-clause-none : goal.whole-requires-clause-none
whole-requires-clause-none g c =
    let b = c.in-Ok.ensures.started.4 [] in
    let none = b.fills in
    let filled = c.in-Ok.ensures.filled in
    omega (arith, none, filled)

pub whole-requires-clause-two : goal.whole-requires-clause-two
whole-requires-clause-two g c = let b = c.in-Ok.ensures.started.4 [] in b.two
