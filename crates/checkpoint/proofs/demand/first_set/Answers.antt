use Rattle.std.proofs.Common.{◌∙◌, sym}
use Rattle.checkpoint.proofs.Firsts.{set_here, zero_here, behind_end, zeros_end}
use Rattle.checkpoint.proofs.demand.first_set.Goals as goal
use Rattle.checkpoint.proofs.demand.first_set.Goals.{else-b-ne0-via-then-b-ne0+else-place-there, else-b-ne0-via-else-b-ne0}

pub returns-then-place-there : goal.returns-then-place-there
returns-then-place-there c =
    sym (set_here c.args.at c.args.there c.loop-i.i c.args.bytes.now c.loop-i-test.true c.if-b-ne0.true c.if-place-there.true)
    ∙ c.loop-i.invariant

pub loop-i-preserved : goal.loop-i-preserved
loop-i-preserved c = elim c.else-b-ne0.branch [
  | else-b-ne0-via-then-b-ne0+else-place-there w ↦
      sym (behind_end c.args.at c.args.there c.loop-i.i c.args.bytes.now c.loop-i-test.true w.if-place-there.false) ∙ c.loop-i.invariant
  | else-b-ne0-via-else-b-ne0 w ↦
      sym (zero_here c.args.at c.args.there c.loop-i.i c.args.bytes.now c.loop-i-test.true w.if-b-ne0.false) ∙ c.loop-i.invariant
]

pub returns : goal.returns
returns c = sym (zeros_end c.args.at c.args.there c.loop-i.i c.args.bytes.now c.loop-i-test.false) ∙ c.loop-i.invariant
