use Rattle.std.proofs.Common.{rules}
use Rattle.asm_statement.proofs.statement.start_step.Goals as goal

pub returns-in-Name : goal.returns-in-Name
returns-in-Name c = search rules
