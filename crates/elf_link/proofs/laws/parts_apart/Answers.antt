use Rattle.elf_link.proofs.PlaceLaws.{text_apart, init_apart, bss_apart, bss_behind}
use Rattle.elf_link.proofs.laws.parts_apart.Goals as goal

pub returns-clause-text : goal.returns-clause-text
returns-clause-text c = λ os i j o at lt. text_apart os i j o at lt

pub returns-clause-init : goal.returns-clause-init
returns-clause-init c = λ os i j o at lt. init_apart os i j o at lt

pub returns-clause-bss : goal.returns-clause-bss
returns-clause-bss c = λ os i j o at lt. bss_apart os i j o at lt

pub returns-clause-behind : goal.returns-clause-behind
returns-clause-behind c = λ os i j o at. bss_behind os i j o at
