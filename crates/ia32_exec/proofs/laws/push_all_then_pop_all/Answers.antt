use Rattle.ia32_exec.proofs.TurnRules.{push_pop_all}
use Rattle.ia32_exec.proofs.laws.push_all_then_pop_all.Goals as goal

pub returns : goal.returns
returns c = push_pop_all
