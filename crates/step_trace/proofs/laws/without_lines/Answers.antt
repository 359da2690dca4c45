use Rattle.step_trace.proofs.Quiet as quiet
use Rattle.step_trace.proofs.laws.without_lines.Goals as goal

pub returns : goal.returns
returns c = quiet.without_lines
