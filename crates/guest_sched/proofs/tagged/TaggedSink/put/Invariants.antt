use Rattle.std.proofs.Common.{◌≡◌, ◌++◌, ℕ, List, length, false}
use Rattle.guest_sched.proofs.tagged.TaggedSink.put.Given as goal

abbrev pub invariant-loop-rest : goal.invariant-loop-rest
invariant-loop-rest g l = record {
  live : l.self.failed ≡ false;
  sink : l.self.out.ghost_name ≡ l.fn.self.out.ghost_name;
  tag : l.self.tag ≡ l.fn.self.tag;
  was : l.self.since.taken ≡ l.fn.self.since.taken;
  faults : l.self.since.faults ≡ l.fn.self.since.faults;
  text : (done : List ℕ) × (done ++ l.rest ≡ l.fn.bytes) × (l.self.since.text ≡ l.fn.self.since.text ++ done);
}

abbrev pub decreases-loop-rest : goal.decreases-loop-rest
decreases-loop-rest g l = length l.rest
