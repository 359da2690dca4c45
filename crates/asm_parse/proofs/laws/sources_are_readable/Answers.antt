use Rattle.asm_parse.proofs.Readability.{source_items}
use Rattle.asm_parse.proofs.laws.sources_are_readable.Goals as goal

pub returns : goal.returns
returns c = source_items
