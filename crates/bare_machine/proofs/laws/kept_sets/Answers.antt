use Rattle.bare_machine.proofs.OneStep as one
use Rattle.bare_machine.proofs.laws.kept_sets.Goals as goal

pub returns : goal.returns
returns c = one.kept_sets
