use Rattle.elf_link.specs.Steps.{size_cause}
use Rattle.std.proofs.Common.{rules}
use Rattle.elf_link.proofs.totals.size_cause.Goals as goal

pub returns-then-before-len-gt-SYMBOL_LIMIT-clause-cause : goal.returns-then-before-len-gt-SYMBOL_LIMIT-clause-cause
unfolding size_cause
returns-then-before-len-gt-SYMBOL_LIMIT-clause-cause c = search rules
