use Rattle.std.proofs.Common.{arith}
use Rattle.ia32_rows.proofs.Readers.{AreBytes-from_each}
use Rattle.step_trace.proofs.ahead.eleven.Goals as goal

pub returns-clause-fit : goal.returns-clause-fit
returns-clause-fit c = AreBytes-from_each _ (λ i. omega (arith, c.type_inv.bytes i))
