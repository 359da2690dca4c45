use Rattle.std.proofs.Common.{◌≡◌, length, map, take}
use Rattle.pv_io.specs.Sink.{Appends}
use Rattle.guest_sched.specs.Stages.{ended_of}
use Rattle.guest_sched.specs.Pieces.{bound_texts}
use Rattle.guest_sched.proofs.finish.finish.Given as goal

abbrev pub invariant-loop-number : goal.invariant-loop-number
invariant-loop-number g l = record {
  len : length l.ended.items ≡ length l.tenants.list.items;
  ended : take l.number l.ended.items ≡ map ended_of (take l.number l.tenants.list.items);
  text : Appends (g.O.Sink.taken l.fn.out) (g.O.Sink.taken l.out) (bound_texts 0 (map ended_of (take l.number l.tenants.list.items)));
  kept : g.O.Sink.faults l.out ≡ g.O.Sink.faults l.fn.out;
}
