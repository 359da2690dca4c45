use Rattle.std.proofs.Common.{◌≡◌, ◌≤◌, ◌+◌, ◌*◌, length, fold, take}
use Rattle.afterburner.specs.Directives.{with_long}
use Rattle.afterburner.proofs.assembly.Assembly.put_longs.Given as goal

abbrev pub invariant-loop-argument : goal.invariant-loop-argument
invariant-loop-argument l = record {
  so_far : l.self ≡ fold (with_long l.names) l.fn.self (take l.argument-index l.arguments);
  size : length l.self.init ≤ length l.fn.self.init + 4 * l.argument-index;
}
