use Rattle.std.proofs.Common.{arith}
use Rattle.trace_check.proofs.Inverse.{if_spelled, only_spelled}
use Rattle.trace_check.proofs.reading.read_choices.Goals as goal

pub returns-clause-spelled : goal.returns-clause-spelled
returns-clause-spelled c = if_spelled c.args.bytes.now c.choices_in.result (λ k. omega (arith, c.type_inv.bytes k)) c.choices_in.ensures

pub returns-clause-only : goal.returns-clause-only
returns-clause-only c = only_spelled c.args.bytes.now c.choices_in.result c.choices_in.ensures
