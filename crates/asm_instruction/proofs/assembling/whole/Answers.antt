use Rattle.asm_instruction.specs.Assembled.{whole}
use Rattle.std.proofs.Common.{rules}
use Rattle.asm_instruction.proofs.assembling.whole.Goals as goal

pub returns : goal.returns
unfolding whole
returns c = search rules
