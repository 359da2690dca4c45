use Rattle.std.proofs.Common.{◌≡◌, ◌≤◌, ◌<◌, ◌^◌, ◌+◌, ◌*◌, ◌-◌, ◌++◌, length}
use Rattle.sites.specs.Gapped.{gaps_fault, gap_sites}
use Rattle.sites.proofs.gapped.gapped_in.Given as goal

abbrev pub invariant-loop-i : goal.invariant-loop-i
invariant-loop-i l = record {
  so_far : gaps_fault l.bytes l.from (l.count - l.i) (8 + 5 * l.i) ≡ gaps_fault l.bytes 0 l.count 8;
  sites : l.list.items ++ gap_sites l.bytes l.from (l.count - l.i) (8 + 5 * l.i) ≡ gap_sites l.bytes 0 l.count 8;
  small : l.from < 2 ^ 32;
  room : 8 + 5 * l.i ≤ length l.bytes;
}
