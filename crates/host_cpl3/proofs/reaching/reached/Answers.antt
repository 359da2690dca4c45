use Rattle.std.proofs.Common.{refl, sym}
use Rattle.host_cpl3.proofs.Leading.{reach_of}
use Rattle.host_cpl3.proofs.reaching.reached.Goals as goal

pub returns-clause-reach : goal.returns-clause-reach
returns-clause-reach c =
    let met = c.in_ok-first.ensures.met in
    let frames = c.in_ok-first.ensures.frames in
    reach_of c.args.ram.now c.args.view.now c.args.write c.args.range.now _ (sym met) refl refl c.requires.short frames.0 frames.1
