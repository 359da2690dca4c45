use Rattle.std.proofs.Common.{rules}
use Rattle.asm_instruction.proofs.control.distance.Goals as goal

pub returns : goal.returns
returns c = search rules
