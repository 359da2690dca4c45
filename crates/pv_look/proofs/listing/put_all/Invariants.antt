use Rattle.std.proofs.Common.{◌≡◌, ◌≤◌, ◌-◌, List, length}
use Rattle.pv_io.specs.Sink.{Appends}
use Rattle.image_check.specs.Sweep.{Swept}
use Rattle.pv_look.specs.Sweeping.{Reached}
use Rattle.pv_look.proofs.Printed.{put_of}
use Rattle.pv_look.proofs.listing.put_all.Given as goal

abbrev pub invariant-loop-at : goal.invariant-loop-at
invariant-loop-at g l = record {
  within : l.at ≤ length l.image.text;
  put : (done : List Swept) × (rest : List Swept) × Reached l.image.text l.at done rest
      × Appends (g.S.Sink.taken l.fn.out) (g.S.Sink.taken l.out) (put_of l.image done);
  kept : g.S.Sink.faults l.out ≡ g.S.Sink.faults l.fn.out;
}

abbrev pub decreases-loop-at : goal.decreases-loop-at
decreases-loop-at g l = length l.labels - l.at
