use Rattle.std.proofs.Common.{rules}
use Rattle.image_check.proofs.placing.text_size.Goals as goal

pub returns : goal.returns
returns c = search rules
