use Rattle.elf_form.specs.ObjectLayout.{symbol_bytes}
use Rattle.std.proofs.Common.{arith}
use Rattle.std.proofs.lemmas.Grind.{common_steps}
use Rattle.elf_form.proofs.object_writing.put_symbol.Goals as goal

pub returns-clause-bytes : goal.returns-clause-bytes
unfolding symbol_bytes
returns-clause-bytes c = grind (arith, common_steps)
