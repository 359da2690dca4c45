use Rattle.std.proofs.Common.{◌≡◌, ℕ, ◌+◌, ◌*◌, ◌%◌, [], length, take, sym, ap, subst, ◌∙◌, arith}
use Rattle.std.proofs.Math.ListN.{length-replicate}
use Rattle.frame_pool.proofs.Frames.{length-frames_from}
use Rattle.image_load.specs.declared.boot.Boot.{Boot}
use Rattle.image_load.specs.Boot.{boot_cpu, boot_ram}
use Rattle.board.specs.Boards.{at_reset}
use Rattle.machine_model.specs.State.{State, wedge}
use Rattle.wedge_step.specs.Standing.{IsAble}
use Rattle.wedge_core.proofs.Booted.{front_stands, text_stands, begun_is, held_with}
use Rattle.wedge_core.proofs.guest.start_in.Goals as goal

pub adopt_in-requires : goal.adopt_in-requires
adopt_in-requires c =
    let zeros : length c.args.ram.now ≡ (c.args.frames + c.args.count) * 4096 =
    ap length c.requires.zero ∙ length-replicate {A = ℕ} ((c.args.frames + c.args.count) * 4096) 0 in
    let size : length c.new-pool.new.ram ≡ (c.args.frames + c.args.count) * 4096 = c.new-pool.ensures.len ∙ (c.in-Ok.ensures.len ∙ zeros) in
    let base = c.new-pool.ensures.frames.0 in
    record {
      may = record {
        size = c.requires.frames;
        room = omega (arith, size);
        whole = ap (λ (k : ℕ). k % 4096) size ∙ omega arith;
        fits = (let fits = c.in-Ok.ensures.ok.0 in omega (arith, fits));
        text =
            text_stands c.args.image.now c.args.frames c.new-pool.new.ram c.in-Ok.ensures.ok.0
            (front_stands c.args.image.now c.args.frames c.args.count c.load.new.ram c.new-pool.new.ram c.new-pool.ensures.memory
            c.in-Ok.ensures.front);
        behind = omega (arith, base);
        stands = c.new-pool.ensures.stands;
        free =
            let e = ap length c.new-pool.ensures.list ∙ length-frames_from c.args.frames c.args.count in
            let some = c.requires.count.0 in
            omega (arith, e, some);
      };
    }

pub returns-in-Ok-adopt_in-clause-started : goal.returns-in-Ok-adopt_in-clause-started
returns-in-Ok-adopt_in-clause-started c =
    let image = c.args.image.now in
    let n = c.args.frames in
    let ok = c.in-Ok.ensures.ok in
    let front = front_stands image n c.args.count c.load.new.ram c.new-pool.new.ram c.new-pool.ensures.memory c.in-Ok.ensures.front in
    let keeps = c.in-Ok-adopt_in.ensures.adopts.pool in
    let zeros : length c.args.ram.now ≡ (n + c.args.count) * 4096 =
    ap length c.requires.zero ∙ length-replicate {A = ℕ} ((n + c.args.count) * 4096) 0 in
    let size : length c.adopt_in.new.ram ≡ (n + c.args.count) * 4096 =
    keeps.size ∙ (c.new-pool.ensures.len ∙ (c.in-Ok.ensures.len ∙ zeros)) in
    let base = c.new-pool.ensures.frames.0 in
    let count = c.new-pool.ensures.frames.1 in
    let same_base = keeps.same.0 in
    let same_count = keeps.same.1 in
    let lengths = keeps.lengths in
    let free = ap length c.new-pool.ensures.list ∙ length-frames_from n c.args.count in
    let held = c.in-Ok-adopt_in.ensures.adopts.held.counted in
    let cpu : c.in-Ok.boot.cpu ≡ boot_cpu image n = ap (λ (b : Boot). b.cpu) ok.1 in
    let here : c.in-Ok-adopt_in.running.cpu ≡ boot_cpu image n =
    ap (λ (b : State). b.cpu) (c.in-Ok-adopt_in.ensures.adopts.state []) ∙ cpu in (
      ok.0,
      omega (arith, size),
      omega (arith, base, same_base),
      omega (arith, count, same_count),
      λ script. record {
        held =
            held_with image script n c.in-Ok-adopt_in.running c.adopt_in.new.pool c.adopt_in.new.ram c.in-Ok-adopt_in.ensures.adopts.held;
        state = c.in-Ok-adopt_in.ensures.adopts.state script
            ∙ begun_is c.in-Ok.boot.cpu (boot_cpu image n) (take (4096 * n) c.new-pool.new.ram) (boot_ram image n) c.new.result at_reset cpu
            front c.new.ensures;
        able = subst IsAble (sym here) (c.each_run_begins_able.ensures (wedge image [] n));
        fills = c.in-Ok-adopt_in.ensures.adopts.fills;
        two = c.in-Ok-adopt_in.ensures.adopts.two;
        all = omega (arith, lengths, free, held, count, same_count);
      },
    )

pub returns-in-Ok-adopt_in-clause-ready : goal.returns-in-Ok-adopt_in-clause-ready
returns-in-Ok-adopt_in-clause-ready c = c.in-Ok-adopt_in.ensures.adopts.ready

pub returns-in-Ok-adopt_in-clause-none : goal.returns-in-Ok-adopt_in-clause-none
returns-in-Ok-adopt_in-clause-none c = c.in-Ok-adopt_in.ensures.adopts.none
