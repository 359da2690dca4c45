use Rattle.std.proofs.Common.{arith, ◌∙◌, sym, ap, length, ◌≤◌, ◌+◌, drop, ℕ}
use Rattle.board.specs.declared.devices.Board.{Board}
use Rattle.board.specs.declared.script.Event.TheVariants.{Rx}
use Rattle.board.specs.Boards.{given}
use Rattle.board.specs.Scripts.{Events}
use Rattle.board.specs.ScriptForm.{is_script_from}
use Rattle.board.specs.EventLists.{EventList}
use Rattle.board.proofs.Searches.{given_one, from_one, given_no_more, given_empty}
use Rattle.board.proofs.devices.Board.begin.Goals as goal

pub loop-at-init : goal.loop-at-init
loop-at-init c = record {
  left = c.events_from-rest.ensures.same c.args.self.now ∙ ap (λ (zs : Events). given c.args.self.now zs c.args.step)
      (c.as_slice.ensures.value ∙ ap (λ (s : EventList). s.list) c.script.view_is);
  order = c.events_from-rest.ensures.order;
}

pub loop-at-preserved : goal.loop-at-preserved
loop-at-preserved c = record {
  left =
      ap (λ (b : Board). given b (drop (c.loop-at.at-index + 1) c.events_from-rest.result.now) c.args.step) c.happen.ensures
      ∙ sym (given_one c.loop-at.self c.events_from-rest.result.now c.loop-at.at-index c.args.step (0, Rx 0)
      c.loop-at-test.true c.if-at-step.false)
      ∙ c.loop-at.invariant.left;
  order =
      ap (λ (low : ℕ). is_script_from low (drop (c.loop-at.at-index + 1) c.events_from-rest.result.now)) (sym c.if-at-step.false)
      ∙ (from_one c.events_from-rest.result.now c.loop-at.at-index c.args.step (0, Rx 0) c.loop-at-test.true c.loop-at.invariant.order).1;
}

pub happen-requires : goal.happen-requires
happen-requires c =
    (from_one c.events_from-rest.result.now c.loop-at.at-index c.args.step (0, Rx 0) c.loop-at-test.true c.loop-at.invariant.order).0

pub returns : goal.returns
returns c =
    let over : length c.events_from-rest.result.now ≤ c.loop-at.at-index = omega arith in
    sym (given_empty c.loop-at.self c.events_from-rest.result.now c.loop-at.at-index c.args.step over) ∙ c.loop-at.invariant.left

pub returns-then-at-step : goal.returns-then-at-step
returns-then-at-step c =
    sym (given_no_more c.loop-at.self c.events_from-rest.result.now c.loop-at.at-index c.args.step (0, Rx 0) c.loop-at-test.true
    c.loop-at.invariant.order c.if-at-step.true)
    ∙ c.loop-at.invariant.left
