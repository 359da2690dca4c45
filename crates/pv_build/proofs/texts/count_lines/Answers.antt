use Rattle.std.proofs.Common.{refl, ap, sym, arith}
use Rattle.pv_build.proofs.LineTexts.{count_on, count_done, as_number}
use Rattle.pv_build.proofs.texts.count_lines.Goals as goal
use Rattle.pv_build.proofs.texts.count_lines.Goals.{then-begins, else-begins}

pub loop-b-preserved : goal.loop-b-preserved
loop-b-preserved c =
    let on = count_on c.loop-b.count c.loop-b.b-index c.loop-b.begins _ c.args.text.now _ c.loop-b-test.true refl c.loop-b.invariant.read in
    elim c.if-begins.branch [
      | then-begins w ↦ record {
        read = omega (arith, w.count-is, ap as_number w.if-begins.true, on);
        small = omega (arith, w.count-is, c.loop-b.invariant.small);
      }
      | else-begins w ↦ record {
        read = omega (arith, w.count-is, ap as_number w.if-begins.false, on);
        small = omega (arith, w.count-is, c.loop-b.invariant.small);
      }
    ]

pub returns : goal.returns
returns c = sym (count_done c.loop-b.count c.loop-b.b-index c.loop-b.begins c.args.text.now _ c.loop-b-test.false c.loop-b.invariant.read)
