use Rattle.std.proofs.Common.{◌*◌}
use Rattle.shadow_views.proofs.Nones.{AreNone}
use Rattle.shadow_views.proofs.next_pair.Given as goal

abbrev pub invariant-loop-pair : goal.invariant-loop-pair
invariant-loop-pair l = AreNone l.ram l.frame (2 * l.from) (2 * l.pair)
