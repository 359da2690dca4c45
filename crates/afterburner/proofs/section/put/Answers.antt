use Rattle.std.proofs.Common.{append_assoc, refl}
use Rattle.std.proofs.lemmas.List.{replicate_more}
use Rattle.afterburner.proofs.section.put.Goals as goal

pub loop-preserved : goal.loop-preserved
loop-preserved c = rw (c.in_ok-push.ensures.items, c.loop.invariant, ← replicate_more c.loop.counter c.args.byte, append_assoc) refl
