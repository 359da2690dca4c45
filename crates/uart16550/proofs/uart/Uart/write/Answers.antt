use Rattle.std.proofs.Common.{rules}
use Rattle.uart16550.specs.Ports.{written}
use Rattle.uart16550.proofs.uart.Uart.write.Goals as goal

pub returns-then-bit-2-clause-written : goal.returns-then-bit-2-clause-written
unfolding written
returns-then-bit-2-clause-written c = search rules

pub returns-else-bit-2-clause-written : goal.returns-else-bit-2-clause-written
unfolding written
returns-else-bit-2-clause-written c = search rules
