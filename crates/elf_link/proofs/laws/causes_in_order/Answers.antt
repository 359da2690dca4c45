use Rattle.elf_link.proofs.OrderLaws.{text_first, init_second, symbols_third, sites_fourth, names_last}
use Rattle.elf_link.proofs.laws.causes_in_order.Goals as goal

pub returns-clause-text : goal.returns-clause-text
returns-clause-text c = text_first

pub returns-clause-init : goal.returns-clause-init
returns-clause-init c = init_second

pub returns-clause-symbols : goal.returns-clause-symbols
returns-clause-symbols c = symbols_third

pub returns-clause-sites : goal.returns-clause-sites
returns-clause-sites c = sites_fourth

pub returns-clause-names : goal.returns-clause-names
returns-clause-names c = names_last
