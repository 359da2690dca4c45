use Rattle.std.proofs.Common.{ℕ, List, ◌++◌, arith}
use Rattle.machine_text.specs.Dump.{cell}
use Rattle.machine_text.specs.Views.{seen}
use Rattle.machine_text.proofs.Pieces.{none_below, one_more}
use Rattle.machine_text.proofs.dump.add_cells.Goals as goal

pub loop-i-init : goal.loop-i-init
loop-i-init g c = record { text = none_below _ _; len = omega arith }

pub loop-i-preserved : goal.loop-i-preserved
loop-i-preserved g c = record {
  text = one_more c.args.line.now.items (λ i. cell (seen g.C.Cache.entries c.args.memory.now) c.args.at c.args.n i) c.loop-i.i
      c.loop-i.line.items _ c.loop-i.invariant.text c.add_cell.ensures.text;
  len = omega (arith, c.loop-i.invariant.len, c.add_cell.ensures.len);
}
