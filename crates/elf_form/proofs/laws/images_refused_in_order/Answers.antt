-- The lemma for all causes in their order.
use Rattle.elf_form.proofs.ReasonLaws.{images_in_order}
use Rattle.elf_form.proofs.laws.images_refused_in_order.Goals as goal

pub returns : goal.returns
returns c = images_in_order
