-- The lemma for all causes in their order.
use Rattle.elf_form.proofs.ReasonLaws.{objects_in_order}
use Rattle.elf_form.proofs.laws.objects_refused_in_order.Goals as goal

pub returns : goal.returns
returns c = objects_in_order
