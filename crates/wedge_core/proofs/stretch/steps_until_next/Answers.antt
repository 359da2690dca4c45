use Rattle.std.proofs.Common.{rules}
use Rattle.wedge_core.proofs.stretch.steps_until_next.Goals as goal

pub returns-in-Some-clause-quiet : goal.returns-in-Some-clause-quiet
returns-in-Some-clause-quiet c = search rules
