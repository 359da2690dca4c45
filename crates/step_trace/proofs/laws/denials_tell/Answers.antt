use Rattle.step_trace.proofs.Denying as denying
use Rattle.step_trace.proofs.laws.denials_tell.Goals as goal

pub returns : goal.returns
returns c = denying.denials_tell
