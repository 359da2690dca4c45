use Rattle.std.proofs.Common.{rules}
use Rattle.asm_argument.proofs.terminal.mark_terminal.Goals as goal

pub returns-then-m-eq45 : goal.returns-then-m-eq45
returns-then-m-eq45 c = search rules

pub returns-else-m-eq58 : goal.returns-else-m-eq58
returns-else-m-eq58 c = search rules
