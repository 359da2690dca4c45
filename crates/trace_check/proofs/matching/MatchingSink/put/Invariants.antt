use Rattle.std.proofs.Common.{◌≡◌, ◌++◌, take}
use Rattle.trace_check.specs.Matches.{taken_by}
use Rattle.trace_check.proofs.matching.MatchingSink.put.Given as goal

abbrev pub invariant-loop-b : goal.invariant-loop-b
invariant-loop-b l = record {
  taken : taken_by l.self ≡ taken_by l.initial.self ++ take l.b-index l.bytes;
  faults : l.self.faults ≡ l.initial.self.faults;
}
