use Rattle.std.proofs.Common.{rules}
use Rattle.asm_statement.proofs.dead.fault_line.Goals as goal

pub returns : goal.returns
returns c = search rules
