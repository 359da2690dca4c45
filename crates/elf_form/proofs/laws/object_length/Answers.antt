use Rattle.elf_form.proofs.ObjectBounds.{length-object, sections-most}
use Rattle.elf_form.proofs.laws.object_length.Goals as goal

pub returns-clause-exact : goal.returns-clause-exact
returns-clause-exact c = length-object

pub returns-clause-bound : goal.returns-clause-bound
returns-clause-bound c = sections-most
