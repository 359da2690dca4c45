use Rattle.ia32_exec.proofs.TurnRules.{push_pop}
use Rattle.ia32_exec.proofs.laws.push_then_pop.Goals as goal

pub returns : goal.returns
returns c = push_pop
