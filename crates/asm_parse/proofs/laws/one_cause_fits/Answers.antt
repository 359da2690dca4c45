use Rattle.asm_parse.proofs.OneCause.{one_fault}
use Rattle.asm_parse.proofs.laws.one_cause_fits.Goals as goal

pub returns : goal.returns
returns c = λ text line other cause second a b. one_fault text a b
