use Rattle.std.proofs.Common.{◌≡◌, ◌≤◌, ◌+◌, ◌*◌, ◌-◌, ◌++◌, length}
use Rattle.sites.specs.Reading.{sites_fault, sites_at}
use Rattle.sites.proofs.reading.placed_in.Given as goal

abbrev pub invariant-loop-i : goal.invariant-loop-i
invariant-loop-i l = record {
  so_far : sites_fault l.bytes l.least (l.count - l.i) (8 + 8 * l.i) ≡ sites_fault l.bytes 0 l.count 8;
  sites : l.list.items ++ sites_at l.bytes (l.count - l.i) (8 + 8 * l.i) ≡ sites_at l.bytes l.count 8;
  room : 8 + 8 * l.i ≤ length l.bytes;
}
