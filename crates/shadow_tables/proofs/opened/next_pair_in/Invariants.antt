use Rattle.std.proofs.Common.{◌*◌}
use Rattle.shadow_views.proofs.Nones.{AreNone}
use Rattle.shadow_tables.proofs.opened.next_pair_in.Given as goal

abbrev pub invariant-loop-pair : goal.invariant-loop-pair
invariant-loop-pair l = record {
  first : AreNone l.ram l.first (2 * l.from) (2 * l.pair);
  second : AreNone l.ram l.second (2 * l.from) (2 * l.pair);
}
