use Rattle.std.proofs.Common.{rules}
use Rattle.elf_link.proofs.relocations.sum_of.Goals as goal

pub returns-then-relative : goal.returns-then-relative
returns-then-relative c = search rules

pub returns-else-relative : goal.returns-else-relative
returns-else-relative c = search rules
