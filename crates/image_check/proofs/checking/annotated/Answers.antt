use Rattle.image_check.specs.Checking.{annotated}
use Rattle.std.proofs.Common.{rules}
use Rattle.image_check.proofs.checking.annotated.Goals as goal

pub returns-in_err-sites-clause-exact : goal.returns-in_err-sites-clause-exact
unfolding annotated
returns-in_err-sites-clause-exact c = search rules
