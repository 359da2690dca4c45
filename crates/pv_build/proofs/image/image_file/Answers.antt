use Rattle.std.proofs.Common.{rules}
use Rattle.pv_build.proofs.image.image_file.Goals as goal

pub returns-clause-file : goal.returns-clause-file
returns-clause-file c = search rules
