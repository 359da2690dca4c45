-- The lemmas for each cause.
use Rattle.elf_form.proofs.ReasonLaws.{object_exact, object_none}
use Rattle.elf_form.proofs.laws.object_causes_are_conditions.Goals as goal

pub returns-clause-exact : goal.returns-clause-exact
returns-clause-exact c = object_exact

pub returns-clause-none : goal.returns-clause-none
returns-clause-none c = object_none
