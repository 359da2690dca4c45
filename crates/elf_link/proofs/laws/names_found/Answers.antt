use Rattle.elf_link.proofs.CauseLaws.{nowhere, found}
use Rattle.elf_link.proofs.laws.names_found.Goals as goal

pub returns-clause-nowhere : goal.returns-clause-nowhere
returns-clause-nowhere c = nowhere

pub returns-clause-found : goal.returns-clause-found
returns-clause-found c = found
