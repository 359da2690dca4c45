use Rattle.std.proofs.Common.{rules}
use Rattle.ia32_types.proofs.same.same_insn.Goals as goal

pub returns-then-a-b-2 : goal.returns-then-a-b-2
returns-then-a-b-2 c = search rules
