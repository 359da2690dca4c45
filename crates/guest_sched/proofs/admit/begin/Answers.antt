use Rattle.std.proofs.Common.{◌≡◌, ℕ, [], ◌+◌, ◌*◌, ◌%◌, ◌≤◌, length, ap, ◌∙◌, arith}
use Rattle.frame_pool.specs.Pool.{base_of}
use Rattle.frame_pool.proofs.Above.{Owns-above, free_list-above}
use Rattle.frame_pool.proofs.Held.{Owns-none}
use Rattle.machine_model.specs.State.{wedge}
use Rattle.guest_sched.proofs.Begun.{behind, text_there, begun}
use Rattle.guest_sched.proofs.admit.begin.Goals as goal

pub adopt-requires-clause-may : goal.adopt-requires-clause-may
adopt-requires-clause-may g c =
    let host = g.H.Host.bytes c.args.host.now in
    let there = g.H.Host.bytes c.to_front.new.host in
    let p = c.args.pool.now in
    let base = c.requires.may.pool_is.0 in
    let low : 4096 * c.args.frames ≤ 4096 * base_of p = omega (arith, base) in
    let same = behind c.args.kernel.now c.args.frames c.args.ram.now host there c.requires.may.fits c.requires.may.front c.requires.may.len
    c.to_front.ensures.host in
    let size : length there ≡ 4096 * (c.args.frames + 512) = c.to_front.ensures.size ∙ c.requires.may.size in
    let e = ap length (free_list-above p host there (4096 * c.args.frames) low same c.to_front.ensures.size c.requires.may.stands) in
    let free = c.requires.may.free in
    let fits = c.requires.may.fits in
    record {
      size = c.requires.frames;
      room = omega (arith, size);
      whole = ap (λ (k : ℕ). k % 4096) size ∙ omega arith;
      fits = omega (arith, fits);
      text = text_there c.args.kernel.now c.args.frames c.args.ram.now host there c.requires.may.fits c.requires.may.front
          c.requires.may.len c.to_front.ensures.host;
      behind = omega (arith, base);
      stands =
          (Owns-above p host there (4096 * c.args.frames) low same c.to_front.ensures.size []
          (Owns-none p host c.requires.may.stands)).stands;
      free = omega (arith, e, free);
    }

pub returns-in-Ok-clause-begun : goal.returns-in-Ok-clause-begun
returns-in-Ok-clause-begun g c =
    let k = c.args.kernel.now in
    let n = c.args.frames in
    let a = c.in-Ok.ensures.adopts in
    begun k n c.args.ram.now (g.H.Host.bytes c.args.host.now) (g.H.Host.bytes c.to_front.new.host) c.requires.may.fits c.requires.may.front
    c.requires.may.len c.to_front.ensures.host
    c.args.pool.now c.adopt.new.pool (g.H.Host.bytes c.adopt.new.host) c.in-Ok.guest c.args.cpu c.new.result c.to_front.ensures.size
    c.requires.may.cpu_is c.new.ensures (c.each_run_begins_able.ensures (wedge k.image [] n)) a.held a.state a.two a.fills a.ready a.filled
    a.pool (let s = c.requires.may.size in omega (arith, s))
