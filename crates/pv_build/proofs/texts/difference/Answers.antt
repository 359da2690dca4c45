use Rattle.std.proofs.Common.{◌∙◌, sym, arith}
use Rattle.pv_build.proofs.LineTexts.{differ_here, second_ends, first_ends, both_end, differing_from}
use Rattle.pv_build.proofs.texts.difference.Goals as goal

pub returns-then-i-second : goal.returns-then-i-second
returns-then-i-second c =
    let l = c.loop-i in
    sym (second_ends l.line l.i c.args.first.now c.args.second.now _ c.loop-i-test.true c.if-i-second.true l.invariant.read)
    ∙ differing_from c.args.first.now c.args.second.now

pub returns-then-second-i : goal.returns-then-second-i
returns-then-second-i c =
    let l = c.loop-i in
    sym (differ_here l.line l.i c.args.first.now c.args.second.now _ c.loop-i-test.true (omega (arith, c.if-i-second.false))
    c.if-second-i.true l.invariant.read)
    ∙ differing_from c.args.first.now c.args.second.now

pub returns-then-first-second : goal.returns-then-first-second
returns-then-first-second c =
    let l = c.loop-i in
    sym (first_ends l.line l.i c.args.first.now c.args.second.now _ (omega (arith, c.loop-i-test.false))
    (omega (arith, c.loop-i-test.false, l.auto.i-end, c.if-first-second.true)) l.invariant.read)
    ∙ differing_from c.args.first.now c.args.second.now

pub returns-else-first-second : goal.returns-else-first-second
returns-else-first-second c =
    let l = c.loop-i in
    sym (both_end l.line l.i c.args.first.now c.args.second.now _ (omega (arith, c.loop-i-test.false))
    (omega (arith, c.loop-i-test.false, c.if-first-second.false)) l.invariant.read)
    ∙ differing_from c.args.first.now c.args.second.now
