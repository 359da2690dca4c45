use Rattle.std.proofs.Common.{rules}
use Rattle.elf_form.proofs.header.passes_end.Goals as goal

pub returns : goal.returns
returns c = search rules
