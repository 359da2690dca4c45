use Rattle.elf_link.proofs.CauseLaws.{no_symbol, not_text}
use Rattle.elf_link.proofs.laws.relocations_refused.Goals as goal

pub returns-clause-no_symbol : goal.returns-clause-no_symbol
returns-clause-no_symbol c = no_symbol

pub returns-clause-not_text : goal.returns-clause-not_text
returns-clause-not_text c = not_text
