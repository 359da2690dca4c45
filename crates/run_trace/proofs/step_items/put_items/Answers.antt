use Rattle.run_trace.proofs.Steps.{lines_split}
use Rattle.pv_io.proofs.Pieces.{front_of}
use Rattle.run_trace.proofs.step_items.put_items.Goals as goal

pub returns-in-Err-clause-failed : goal.returns-in-Err-clause-failed
returns-in-Err-clause-failed g c =
    front_of (g.O.Sink.taken c.args.out.now) _ _ _ _ _ _ c.loop-item.invariant.taken c.in-Err.ensures.failed
    (lines_split c.args.items.now c.loop-item.item-index _ c.loop-item-test.true)
