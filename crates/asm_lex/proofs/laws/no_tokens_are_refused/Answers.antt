use Rattle.asm_lex.proofs.OneRefusal.{refused_or_read}
use Rattle.asm_lex.proofs.laws.no_tokens_are_refused.Goals as goal

pub returns : goal.returns
returns c = refused_or_read
