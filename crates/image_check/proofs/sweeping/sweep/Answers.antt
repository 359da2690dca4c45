use Rattle.std.proofs.Common.{◌≡◌, ◌∙◌, sym, subst, arith}
use Rattle.std.specs.Prelude.{length, false, replicate}
use Rattle.std.proofs.lemmas.List.{length-set}
use Rattle.image_check.specs.declared.fault.CheckFault.{CheckFault}
use Rattle.image_check.specs.Answers.{Fails}
use Rattle.image_check.specs.Pieces.{pieces_in}
use Rattle.image_check.proofs.SweepSteps.{went_first, went_on, went_wrong, is_through}
use Rattle.image_check.proofs.sweeping.sweep.Goals as goal

pub loop-at-init : goal.loop-at-init
loop-at-init c =
    let zeros : c.in_ok-starts.starts.items ≡ replicate (length c.args.text.now) false =
    c.in_ok-starts.ensures.items_if_clones_equal (λ y h. h) in
    record {
      went = went_first c.args.text.now c.in_ok-starts.starts.items zeros;
      len = omega (arith, c.in_ok-starts.ensures.len);
      within = omega arith;
    }

pub returns-in-None-clause-pieces : goal.returns-in-None-clause-pieces
returns-in-None-clause-pieces c =
    let l = c.loop-at in
    let none = sym c.piece_there.ensures.exact ∙ c.in-None.is in
    let wrong = went_wrong c.args.text.now l.starts.items l.last l.at c.loop-at-test.true none l.invariant.went in
    subst (λ (fault : CheckFault). Fails fault (pieces_in c.args.text.now)) (sym c.stopped.ensures) wrong

pub loop-at-preserved : goal.loop-at-preserved
loop-at-preserved c =
    let l = c.loop-at in
    let p = c.in-Some.piece in
    let there = sym c.piece_there.ensures.exact ∙ c.in-Some.is in
    let room = c.in-Some.ensures.room in
    let on = went_on c.args.text.now l.starts.items l.last l.at p c.loop-at-test.true l.invariant.len c.in-Some.ensures.place in
    record {
      went = on room.0 there l.invariant.went;
      len = length-set l.starts.items l.at _ ∙ l.invariant.len;
      within = room.1;
    }

pub returns-clause-pieces : goal.returns-clause-pieces
returns-clause-pieces c =
    let l = c.loop-at in
    (is_through c.args.text.now l.starts.items l.last l.at c.loop-at-test.false l.invariant.within l.invariant.went).pieces

pub returns-clause-left : goal.returns-clause-left
returns-clause-left c =
    let l = c.loop-at in
    (is_through c.args.text.now l.starts.items l.last l.at c.loop-at-test.false l.invariant.within l.invariant.went).left

pub returns-clause-starts : goal.returns-clause-starts
returns-clause-starts c =
    let l = c.loop-at in
    (is_through c.args.text.now l.starts.items l.last l.at c.loop-at-test.false l.invariant.within l.invariant.went).marked

pub returns-clause-last : goal.returns-clause-last
returns-clause-last c =
    let l = c.loop-at in
    (is_through c.args.text.now l.starts.items l.last l.at c.loop-at-test.false l.invariant.within l.invariant.went).last_is
