use Rattle.std.proofs.Common.{◌≡◌, take}
use Rattle.pv_io.specs.Sink.{Appends}
use Rattle.run_trace.specs.Text.{lines_of}
use Rattle.run_trace.proofs.step_items.put_items.Given as goal

abbrev pub invariant-loop-item : goal.invariant-loop-item
invariant-loop-item g l = record {
  taken : Appends (g.O.Sink.taken l.fn.out) (g.O.Sink.taken l.out) (lines_of (take l.item-index l.items));
  kept : g.O.Sink.faults l.out ≡ g.O.Sink.faults l.fn.out;
}
