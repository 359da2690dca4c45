use Rattle.std.proofs.Common.{◌≡◌, ◌*◌, ◌++◌}
use Rattle.machine_text.specs.Below.{below}
use Rattle.machine_text.specs.Dump.{dump_line, address, rest_of}
use Rattle.machine_text.specs.Views.{seen}
use Rattle.machine_text.proofs.dump.add_memory.Given as goal

abbrev pub invariant-loop-k : goal.invariant-loop-k
invariant-loop-k g l =
    l.text.items ≡ l.fn.text.items ++ below (λ k. dump_line (seen g.C.Cache.entries l.memory) (address l.at (16 * k)) (rest_of l.len k)) l.k
