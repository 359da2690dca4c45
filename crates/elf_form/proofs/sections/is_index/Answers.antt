use Rattle.std.proofs.Common.{rules}
use Rattle.elf_form.proofs.sections.is_index.Goals as goal

pub returns-then-index-lt-SHN_LORESERVE : goal.returns-then-index-lt-SHN_LORESERVE
returns-then-index-lt-SHN_LORESERVE c = search rules
