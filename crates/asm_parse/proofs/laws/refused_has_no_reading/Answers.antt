use Rattle.asm_parse.proofs.OneCause.{no_reading}
use Rattle.asm_parse.proofs.laws.refused_has_no_reading.Goals as goal

pub returns : goal.returns
returns c = λ text line cause a h. no_reading text a h
