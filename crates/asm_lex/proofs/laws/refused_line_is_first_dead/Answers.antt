use Rattle.asm_lex.proofs.OneRefusal.{refused_line}
use Rattle.asm_lex.proofs.laws.refused_line_is_first_dead.Goals as goal

pub returns : goal.returns
returns c = refused_line
