use Rattle.std.proofs.Common.{rules}
use Rattle.checkpoint.specs.Head.{four}
use Rattle.checkpoint.proofs.Parts.{put_more}
use Rattle.checkpoint.proofs.head.put_words.Goals as goal

pub loop-word-preserved : goal.loop-word-preserved
loop-word-preserved c =
    put_more four c.args.words.now c.loop-word.word-index 0 c.args.into.now.items c.loop-word.into.items c.extend_from_slice.new.self.items
    _ c.loop-word-test.true
    c.loop-word.invariant c.in_ok-extend_from_slice.ensures.items (search rules)
