use Rattle.std.proofs.Common.{arith}
use Rattle.wedge_step.specs.Standing.{ground}
use Rattle.wedge_step.proofs.Sights.{shown_long}
use Rattle.wedge_step.proofs.sight.walk.Goals as goal

pub walk-requires-clause-frames : goal.walk-requires-clause-frames
walk-requires-clause-frames c =
    let e = shown_long (ground c.args.view.now.image.now c.args.view.now.frames) c.args.view.now.ram.now c.args.view.now.room
    c.args.view.now.laid in
    omega (arith, e)
