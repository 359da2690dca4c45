use Rattle.asm_instruction.specs.Assembled.{assembled}
use Rattle.std.proofs.Common.{rules}
use Rattle.asm_instruction.proofs.assembling.by_name.Goals as goal

pub returns-in-Some-clause-exact : goal.returns-in-Some-clause-exact
unfolding assembled
returns-in-Some-clause-exact c = search rules
