use Rattle.std.proofs.Common.{rules}
use Rattle.ia32_types.proofs.flags.Flags.bit.Goals as goal

pub returns : goal.returns
returns c = search rules
