use Rattle.ia32_exec.specs.Registers.{register_value}
use Rattle.std.proofs.Common.{rules}
use Rattle.ia32_exec.proofs.registers.register_value.Goals as goal

pub returns-else-n-lt4-clause-value : goal.returns-else-n-lt4-clause-value
unfolding register_value
returns-else-n-lt4-clause-value c = search rules
