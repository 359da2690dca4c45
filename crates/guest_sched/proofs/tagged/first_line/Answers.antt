use Rattle.std.proofs.Common.{ℕ, ◌+◌, sym, ap, ◌∙◌, arith}
use Rattle.guest_sched.proofs.Tags.{line_on, end_on, line_ends, end_ends, line_past, end_past}
use Rattle.guest_sched.proofs.tagged.first_line.Goals as goal

pub loop-b-preserved : goal.loop-b-preserved
loop-b-preserved c =
    let on = line_on c.args.text.now c.loop-b.b-index c.loop-b-test.true c.if-b-eq10.false in
    record {
      here = omega (arith, c.loop-b.invariant.here);
      len = omega (arith, c.loop-b.invariant.len, on);
      end = c.loop-b.invariant.end ∙ end_on c.args.text.now c.loop-b.b-index c.loop-b-test.true c.if-b-eq10.false;
    }

pub returns-then-b-eq10-clause-len : goal.returns-then-b-eq10-clause-len
returns-then-b-eq10-clause-len c =
    sym (c.loop-b.invariant.len
    ∙ ap (λ (n : ℕ). c.loop-b.len + n) (line_ends c.args.text.now c.loop-b.b-index c.loop-b-test.true c.if-b-eq10.true))

pub returns-then-b-eq10-clause-end : goal.returns-then-b-eq10-clause-end
returns-then-b-eq10-clause-end c =
    sym (c.loop-b.invariant.end ∙ end_ends c.args.text.now c.loop-b.b-index c.loop-b-test.true c.if-b-eq10.true)

pub returns-clause-len : goal.returns-clause-len
returns-clause-len c =
    let none = line_past c.args.text.now c.loop-b.b-index c.loop-b-test.false in omega (arith, c.loop-b.invariant.len, none)

pub returns-clause-end : goal.returns-clause-end
returns-clause-end c = sym (c.loop-b.invariant.end ∙ end_past c.args.text.now c.loop-b.b-index c.loop-b-test.false)
