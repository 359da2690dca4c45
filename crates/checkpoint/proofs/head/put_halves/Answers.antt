use Rattle.std.proofs.Common.{rules}
use Rattle.checkpoint.specs.Head.{two}
use Rattle.checkpoint.proofs.Parts.{put_more}
use Rattle.checkpoint.proofs.head.put_halves.Goals as goal

pub loop-half-preserved : goal.loop-half-preserved
loop-half-preserved c =
    put_more two c.args.halves.now c.loop-half.half-index 0 c.args.into.now.items c.loop-half.into.items c.extend_from_slice.new.self.items
    _ c.loop-half-test.true
    c.loop-half.invariant c.in_ok-extend_from_slice.ensures.items (search rules)
