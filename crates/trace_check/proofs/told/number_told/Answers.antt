use Rattle.std.proofs.Common.{◌≡◌, ◌+◌, ◌*◌, ◌-◌, get_or, true, sym, ◌∙◌, arith}
use Rattle.std.specs.Char.{is_ascii_digit}
use Rattle.trace_check.proofs.LastLine.{left_on, left_grows}
use Rattle.trace_check.proofs.told.number_told.Goals as goal

pub returns-then-number-gt-MOST_STEPS : goal.returns-then-number-gt-MOST_STEPS
returns-then-number-gt-MOST_STEPS c =
    let text = c.args.text.now in
    let i = c.loop-b.b-index in
    let digit : is_ascii_digit (get_or text i 0) ≡ true = sym c.is_ascii_digit.ensures.value ∙ c.if-not-is_ascii_digit.false in
    let on = left_on c.loop-b.number i text c.loop-b-test.true digit in
    let least = left_grows (10 * c.loop-b.number + (get_or text i 0 - 48)) (i + 1) text in
    omega (arith, on, least, c.loop-b.invariant.so_far, c.if-number-gt-MOST_STEPS.true)

pub loop-b-preserved : goal.loop-b-preserved
loop-b-preserved c =
    let text = c.args.text.now in
    let i = c.loop-b.b-index in
    let digit : is_ascii_digit (get_or text i 0) ≡ true = sym c.is_ascii_digit.ensures.value ∙ c.if-not-is_ascii_digit.false in
    record {
      so_far = sym (left_on c.loop-b.number i text c.loop-b-test.true digit) ∙ c.loop-b.invariant.so_far;
      small = c.if-number-gt-MOST_STEPS.false;
    }
