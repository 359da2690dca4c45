use Rattle.shadow_tables.specs.Slots.{word_of}
use Rattle.std.proofs.Common.{rules}
use Rattle.shadow_tables.proofs.words.word_of.Goals as goal

pub returns : goal.returns
unfolding word_of
returns c = search rules
