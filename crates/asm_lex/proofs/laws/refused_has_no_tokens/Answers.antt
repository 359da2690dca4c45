use Rattle.asm_lex.proofs.OneRefusal.{no_token_list}
use Rattle.asm_lex.proofs.laws.refused_has_no_tokens.Goals as goal

pub returns : goal.returns
returns c = λ text line cause tokens p q. no_token_list text line cause tokens p q
