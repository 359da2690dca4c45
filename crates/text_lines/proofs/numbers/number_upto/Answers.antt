use Rattle.std.proofs.Common.{◌∙◌, sym, ◌+◌, ◌*◌, ◌-◌, drop, get_or}
use Rattle.text_lines.proofs.Decimals.{number_whole, digit_step, other_step, too_large, number_end}
use Rattle.text_lines.proofs.numbers.number_upto.Goals as goal

pub returns-then-not-is_ascii_digit-clause-value : goal.returns-then-not-is_ascii_digit-clause-value
returns-then-not-is_ascii_digit-clause-value c =
    sym (other_step c.args.limit c.loop-b.value c.args.word.now c.loop-b.b-index c.loop-b-test.true
    (sym c.if-not-is_ascii_digit.ensures.value))
    ∙ c.loop-b.invariant.left ∙ number_whole c.args.limit c.args.word.now

pub returns-then-value-limit-clause-value : goal.returns-then-value-limit-clause-value
returns-then-value-limit-clause-value c =
    sym (too_large c.args.limit (10 * c.loop-b.value + (get_or c.args.word.now c.loop-b.b-index 0 - 48))
    (drop (c.loop-b.b-index + 1) c.args.word.now) c.if-value-limit.true)
    ∙ sym (digit_step c.args.limit c.loop-b.value c.args.word.now c.loop-b.b-index c.loop-b-test.true
    (sym c.if-not-is_ascii_digit.ensures.value))
    ∙ c.loop-b.invariant.left ∙ number_whole c.args.limit c.args.word.now

pub loop-b-preserved : goal.loop-b-preserved
loop-b-preserved c = record {
  left =
      sym (digit_step c.args.limit c.loop-b.value c.args.word.now c.loop-b.b-index c.loop-b-test.true
      (sym c.if-not-is_ascii_digit.ensures.value))
      ∙ c.loop-b.invariant.left;
  low = c.if-value-limit.false;
}

pub returns-clause-value : goal.returns-clause-value
returns-clause-value c =
    sym (number_end c.args.limit c.loop-b.value c.args.word.now c.loop-b.b-index c.loop-b-test.false c.loop-b.invariant.low)
    ∙ c.loop-b.invariant.left ∙ number_whole c.args.limit c.args.word.now
