use Rattle.ia32_encode.proofs.Function.{chosen_is}
use Rattle.ia32_encode.proofs.Taking.{chosen_good, none_suit}
use Rattle.ia32_encode.proofs.laws.choices.Goals as goal

pub returns-clause-some : goal.returns-clause-some
returns-clause-some c = chosen_good

pub returns-clause-first : goal.returns-clause-first
returns-clause-first c = chosen_is

pub returns-clause-none : goal.returns-clause-none
returns-clause-none c = none_suit
