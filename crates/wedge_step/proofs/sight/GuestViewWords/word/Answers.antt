use Rattle.std.proofs.Common.{arith}
use Rattle.wedge_step.specs.Standing.{ground}
use Rattle.wedge_step.proofs.Sights.{shown_long}
use Rattle.wedge_step.proofs.sight.GuestViewWords.word.Goals as goal

pub word-requires : goal.word-requires
word-requires c =
    let s = c.args.self.now in
    let e = shown_long (ground s.image.now s.frames) s.ram.now s.room s.laid in
    record { within = omega (arith, e) }
