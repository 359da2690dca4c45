use Rattle.asm_lex.proofs.OneRefusal.{one_dead_line}
use Rattle.asm_lex.proofs.laws.one_line_is_first_dead.Goals as goal

pub returns : goal.returns
returns c = one_dead_line
