use Rattle.std.proofs.Common.{◌*◌}
use Rattle.shadow_views.proofs.Nones.{none-pairs}
use Rattle.shadow_views.proofs.next_pair.Goals as goal

pub loop-pair-preserved : goal.loop-pair-preserved
loop-pair-preserved c = none-pairs c.args.ram.now c.args.frame (2 * c.args.from) c.loop-pair.pair
    (c.are_none.ensures.none.0 c.if-not-are_none.false) c.loop-pair.invariant
