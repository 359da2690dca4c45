use Rattle.std.proofs.Common.{◌≡◌, ◌++◌, take}
use Rattle.afterburner.specs.Directives.{values}
use Rattle.afterburner.proofs.data.put_values.Given as goal

abbrev pub invariant-loop-argument : goal.invariant-loop-argument
invariant-loop-argument l = l.out.items ≡ l.fn.out.items ++ values l.size (take l.argument-index l.arguments)
