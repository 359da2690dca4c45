use Rattle.std.proofs.Common.{ℕ, ◌*◌, refl, arith}
use Rattle.step_mem.proofs.access.put_at.Goals as goal

pub returns-clause-sound : goal.returns-clause-sound
returns-clause-sound g c =
    let before = c.requires.sound in
    let limit : ℕ = 4096 * c.args.state.now.control.frames in
    let kept = g.met.B.Translations.apart c.args.base.now limit c.args.ram.now c.write.new.ram before.below c.write.ensures.above
    c.write.ensures.length before.stands_now in
    record {
      frames_in = omega (arith, before.frames_in, c.write.ensures.length);
      below = before.below;
      laid_in = before.laid_in;
      counted = before.counted;
      few = before.few;
      visits = before.visits;
      told = before.told;
      read = before.read;
      written = before.written;
      fits = before.fits;
      stands_now = g.met.B.Translations.stays c.args.base.now limit c.args.ram.now c.write.new.ram before.below c.write.ensures.above
          c.write.ensures.length before.stands_now;
      within = rw kept before.within;
      reached = rw kept before.reached;
      apart = rw kept before.apart;
      earlier_counted = before.earlier_counted;
      earlier_fits = before.earlier_fits;
      earlier_within = rw kept before.earlier_within;
      earlier_reached = rw kept before.earlier_reached;
    }

pub returns-clause-after : goal.returns-clause-after
returns-clause-after g c =
    let before = c.requires.sound in
    let limit : ℕ = 4096 * c.args.state.now.control.frames in
    let kept = g.met.B.Translations.apart c.args.base.now limit c.args.ram.now c.write.new.ram before.below c.write.ensures.above
    c.write.ensures.length before.stands_now in
    rw (kept, c.write.ensures.memory, c.requires.place) refl
