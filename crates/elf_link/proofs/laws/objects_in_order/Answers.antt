use Rattle.elf_link.specs.Refusals.{object_cause}
use Rattle.elf_link.proofs.OrderLaws.{first_refused, none_refused}
use Rattle.elf_link.proofs.laws.objects_in_order.Goals as goal

pub returns-clause-found : goal.returns-clause-found
returns-clause-found c = λ os r h. first_refused (object_cause os) os r h

pub returns-clause-none : goal.returns-clause-none
returns-clause-none c = λ os h i o at. none_refused (object_cause os) os h i o at
