use Rattle.run_trace.specs.Text.{what_text}
use Rattle.std.proofs.Common.{rules}
use Rattle.run_trace.proofs.lines.what.Goals as goal

pub returns-in-In8-clause-text : goal.returns-in-In8-clause-text
unfolding what_text
returns-in-In8-clause-text c = search rules
