use Rattle.std.proofs.Common.{sym, ◌∙◌}
use Rattle.image_check.proofs.SiteSteps.{counted_first, counted_wrong, counted_short, counted_on, counted_all}
use Rattle.image_check.proofs.site.has_nops.Goals as goal

pub loop-init : goal.loop-init
loop-init c = record { counted = counted_first c.args.count c.args.text.now c.args.from; within = c.requires.inside }

pub returns-in-None : goal.returns-in-None
returns-in-None c = λ ps left.
    let l = c.loop in
    let none = sym c.piece_there.ensures.exact ∙ c.in-None.is in
    counted_short c.args.count l.counter c.args.text.now l.at ps (l.invariant.counted ps left) c.loop-test.true none

pub returns-then-not-is_nop_role : goal.returns-then-not-is_nop_role
returns-then-not-is_nop_role c = λ ps left.
    let l = c.loop in
    let there = sym c.piece_there.ensures.exact ∙ c.in-Some.is in
    let other = sym c.is_nop_role.ensures ∙ c.if-not-is_nop_role.true in
    counted_wrong c.args.count l.counter c.args.text.now l.at ps (l.invariant.counted ps left) c.loop-test.true c.in-Some.piece there other

pub loop-preserved : goal.loop-preserved
loop-preserved c =
    let l = c.loop in
    let p = c.in-Some.piece in
    let there = sym c.piece_there.ensures.exact ∙ c.in-Some.is in
    let nop = sym c.is_nop_role.ensures ∙ c.if-not-is_nop_role.false in
    record {
      counted =
          λ ps left. counted_on c.args.count l.counter c.args.text.now l.at ps (l.invariant.counted ps left) c.loop-test.true p there nop;
      within = c.in-Some.ensures.room.1;
    }

pub returns : goal.returns
returns c = λ ps left.
    let l = c.loop in
    counted_all c.args.count l.counter c.args.text.now l.at ps (l.invariant.counted ps left) c.loop-test.false
