use Rattle.asm_lex.proofs.OneRefusal.{one_refusal}
use Rattle.asm_lex.proofs.laws.one_refusal_fits.Goals as goal

pub returns : goal.returns
returns c = λ text line other cause second p q. one_refusal text line other cause second p q
