use Rattle.std.proofs.Common.{◌≡◌, ◌++◌, take}
use Rattle.std.specs.Prelude.{filter}
use Rattle.afterburner.specs.Objects.{are, symbols_seen}
use Rattle.afterburner.proofs.object.put_symbols.Given as goal

abbrev pub invariant-loop-number : goal.invariant-loop-number
invariant-loop-number l =
    l.out.items ≡ l.fn.out.items ++ filter (are l.global) (symbols_seen (take l.number l.names) (take l.number l.definitions))
