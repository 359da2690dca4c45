use Rattle.elf_link.proofs.DoubledLaws.{doubled_found, doubled_none}
use Rattle.elf_link.proofs.laws.names_doubled.Goals as goal

pub returns-clause-found : goal.returns-clause-found
returns-clause-found c = doubled_found

pub returns-clause-none : goal.returns-clause-none
returns-clause-none c = doubled_none
