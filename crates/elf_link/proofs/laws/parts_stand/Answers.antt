use Rattle.elf_link.proofs.PlaceLaws.{text_stands, init_stands}
use Rattle.elf_link.proofs.laws.parts_stand.Goals as goal

pub returns-clause-text : goal.returns-clause-text
returns-clause-text c = text_stands

pub returns-clause-init : goal.returns-clause-init
returns-clause-init c = init_stands
