use Rattle.std.proofs.Common.{rules}
use Rattle.elf_link.proofs.gathering.are_crowded.Goals as goal

pub returns : goal.returns
returns c = search rules
