use Rattle.std.proofs.Common.{◌*◌}
use Rattle.shadow_views.proofs.Nones.{none-pairs}
use Rattle.shadow_tables.proofs.opened.next_pair_in.Goals as goal

pub loop-pair-preserved : goal.loop-pair-preserved
loop-pair-preserved c = record {
  first = none-pairs c.args.ram.now c.args.first (2 * c.args.from) c.loop-pair.pair (c.are_none.ensures.none.0 c.if-not-are_none.false)
      c.loop-pair.invariant.first;
  second = none-pairs c.args.ram.now c.args.second (2 * c.args.from) c.loop-pair.pair
      (c.are_none-in-loop-pair.ensures.none.0 c.if-not-are_none-2.false) c.loop-pair.invariant.second;
}
