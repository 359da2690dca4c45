use Rattle.std.proofs.Common.{rules}
use Rattle.ia32_exec.proofs.writing.write_all.Goals as goal

pub returns-in-One-clause-written : goal.returns-in-One-clause-written
returns-in-One-clause-written g c = search rules
