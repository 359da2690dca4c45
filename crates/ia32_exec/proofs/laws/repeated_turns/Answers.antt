use Rattle.ia32_exec.proofs.TurnRules.{counted_out, passed_by}
use Rattle.ia32_exec.proofs.laws.repeated_turns.Goals as goal

pub returns-clause-same : goal.returns-clause-same
returns-clause-same c = counted_out

pub returns-clause-passes : goal.returns-clause-passes
returns-clause-passes c = passed_by
