use Rattle.std.proofs.Common.{rules}
use Rattle.ia32_exec.proofs.operands.to_destination.Goals as goal

pub returns-in-Memory : goal.returns-in-Memory
returns-in-Memory c = search rules
