use Rattle.std.proofs.Common.{rules}
use Rattle.pv_words.proofs.checkpoint_words.machine.Goals as goal

pub returns-then-is_word-2 : goal.returns-then-is_word-2
returns-then-is_word-2 c = search rules
