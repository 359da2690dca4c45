-- The lemmas for each cause.
use Rattle.elf_form.proofs.ReasonLaws.{image_exact, image_none}
use Rattle.elf_form.proofs.laws.image_causes_are_conditions.Goals as goal

pub returns-clause-exact : goal.returns-clause-exact
returns-clause-exact c = image_exact

pub returns-clause-none : goal.returns-clause-none
returns-clause-none c = image_none
