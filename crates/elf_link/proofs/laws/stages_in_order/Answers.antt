use Rattle.elf_link.proofs.OrderLaws.{objects_first, relocs_second, no_start, start_in_text, start_elsewhere}
use Rattle.elf_link.proofs.laws.stages_in_order.Goals as goal

pub returns-clause-objects : goal.returns-clause-objects
returns-clause-objects c = objects_first

pub returns-clause-relocations : goal.returns-clause-relocations
returns-clause-relocations c = relocs_second

pub returns-clause-no_start : goal.returns-clause-no_start
returns-clause-no_start c = no_start

pub returns-clause-start_in_text : goal.returns-clause-start_in_text
returns-clause-start_in_text c = start_in_text

pub returns-clause-start_elsewhere : goal.returns-clause-start_elsewhere
returns-clause-start_elsewhere c = start_elsewhere
