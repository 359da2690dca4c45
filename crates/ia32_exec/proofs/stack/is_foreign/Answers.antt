use Rattle.std.proofs.Common.{rules}
use Rattle.ia32_exec.proofs.stack.is_foreign.Goals as goal

pub returns-then-bit-6 : goal.returns-then-bit-6
returns-then-bit-6 c = search rules

pub returns-else-bit-6 : goal.returns-else-bit-6
returns-else-bit-6 c = search rules
