use Rattle.text_lines.proofs.Parts.{cut_is}
use Rattle.text_lines.proofs.cuts.first_cut.Goals as goal

pub returns : goal.returns
returns c = rw c.first_place.ensures (cut_is c.args.c c.args.text.now)
