use Rattle.elf_link.specs.Symbols.{globals}
use Rattle.elf_link.specs.Relocations.{reloc_cause}
use Rattle.elf_form.specs.Tables.{first_some}
use Rattle.elf_link.proofs.OrderLaws.{first_refused, none_refused, first_cause, no_cause}
use Rattle.elf_link.proofs.laws.relocations_in_order.Goals as goal

pub returns-clause-object : goal.returns-clause-object
returns-clause-object c = λ os r h. first_refused (λ p. first_some (reloc_cause (globals os) p) p.1.relocs) os r h

pub returns-clause-relocation : goal.returns-clause-relocation
returns-clause-relocation c = λ os p cause h. first_cause (reloc_cause (globals os) p) p.1.relocs cause h

pub returns-clause-none : goal.returns-clause-none
returns-clause-none c = λ os h i k o r at there.
    no_cause (reloc_cause (globals os) (i, o)) o.relocs
    (none_refused (λ p. first_some (reloc_cause (globals os) p) p.1.relocs) os h i o at) k r there
