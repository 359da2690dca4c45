use Rattle.std.proofs.Common.{rules}
use Rattle.uart16550.specs.Ports.{after_read, read_at}
use Rattle.uart16550.proofs.uart.Uart.read.Goals as goal

pub returns-else-is_empty-clause-value : goal.returns-else-is_empty-clause-value
unfolding read_at after_read
returns-else-is_empty-clause-value c = search rules

pub returns-else-is_empty-clause-after : goal.returns-else-is_empty-clause-after
unfolding read_at after_read
returns-else-is_empty-clause-after c = search rules
