use Rattle.text_lines.specs.Numbers.{number_said}
use Rattle.std.proofs.Common.{arith}
use Rattle.std.proofs.lemmas.Grind.{common_steps}
use Rattle.text_lines.proofs.numbers.number.Goals as goal

pub returns-in_default-clause-value : goal.returns-in_default-clause-value
unfolding number_said
returns-in_default-clause-value c = grind (arith, common_steps)
