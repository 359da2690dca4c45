use Rattle.std.proofs.Common.{arith, below_more}
use Rattle.std.proofs.lemmas.Grind.{common_steps}
use Rattle.checkpoint.proofs.head.put_segments.Goals as goal

pub loop-segment-preserved : goal.loop-segment-preserved
loop-segment-preserved c = (grind (arith, common_steps), below_more _ _ c.loop-segment.invariant.1 (c.in_ok-put_halves.ensures.fit 0))
