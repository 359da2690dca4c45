use Rattle.std.proofs.Common.{refl}
use Rattle.std.proofs.lemmas.List.{take_all}
use Rattle.trace_check.specs.Form.{choices_bytes}
use Rattle.trace_check.proofs.writing.written.Goals as goal

pub returns : goal.returns
unfolding choices_bytes
returns c = rw (c.loop-choice.invariant, take_all c.loop-choice.choice-index c.args.list.now c.loop-choice-test.false) refl

pub loop-choice-init : goal.loop-choice-init
loop-choice-init c = rw (
  c.in_ok-extend_from_slice-2.ensures.items,
  c.in_ok-extend_from_slice.ensures.items,
  c.new-out.ensures.items,
  c.to_le_bytes.ensures,
) refl
