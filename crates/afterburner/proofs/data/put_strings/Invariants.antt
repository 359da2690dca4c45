use Rattle.std.proofs.Common.{◌≡◌, ◌++◌, take}
use Rattle.std.specs.List.{flat_map}
use Rattle.afterburner.specs.Directives.{string_bytes}
use Rattle.afterburner.proofs.data.put_strings.Given as goal

abbrev pub invariant-loop-argument : goal.invariant-loop-argument
invariant-loop-argument l = l.out.items ≡ l.fn.out.items ++ flat_map (string_bytes l.ended) (take l.argument-index l.arguments)
