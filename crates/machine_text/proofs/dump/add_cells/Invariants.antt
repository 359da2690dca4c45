use Rattle.std.proofs.Common.{◌≡◌, ◌≤◌, ◌+◌, ◌*◌, ◌++◌, length}
use Rattle.machine_text.specs.Below.{below}
use Rattle.machine_text.specs.Dump.{cell}
use Rattle.machine_text.specs.Views.{seen}
use Rattle.machine_text.proofs.dump.add_cells.Given as goal

abbrev pub invariant-loop-i : goal.invariant-loop-i
invariant-loop-i g l = record {
  text : l.line.items ≡ l.fn.line.items ++ below (λ i. cell (seen g.C.Cache.entries l.memory) l.at l.n i) l.i;
  len : length l.line.items ≤ length l.fn.line.items + 4 * l.i;
}
