use Rattle.asm_instruction.specs.Mnemonic.{drafted}
use Rattle.std.proofs.Common.{rules}
use Rattle.asm_instruction.proofs.mnemonic.drafted.Goals as goal

pub returns-else-rep : goal.returns-else-rep
unfolding drafted
returns-else-rep c = search rules
