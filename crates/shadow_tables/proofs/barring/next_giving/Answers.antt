use Rattle.std.proofs.Common.{arith}
use Rattle.shadow_tables.proofs.Bars.{still-pairs}
use Rattle.shadow_tables.proofs.barring.next_giving.Goals as goal

pub loop-i-preserved-then-are_none : goal.loop-i-preserved-then-are_none
loop-i-preserved-then-are_none c =
    let l = c.loop-i.invariant in
    let behind = l.behind in
    let even = c.if-i-eq0.true in
    let next = c.next_pair-i.ensures in
    let further = next.behind in
    let within = next.within in
    record {
      behind = omega (arith, behind, further);
      within = omega (arith, within);
      none = still-pairs c.args.ram.now c.args.table c.args.frame c.args.from c.loop-i.i c.next_pair-i.result c.if-table-eq0.false even
          (c.are_none.ensures.none.0 c.if-are_none.true) next.none l.none;
    }
