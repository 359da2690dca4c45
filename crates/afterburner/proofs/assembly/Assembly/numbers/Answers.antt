use Rattle.afterburner.specs.Directives.{numbers}
use Rattle.std.proofs.Common.{rules}
use Rattle.afterburner.proofs.assembly.Assembly.numbers.Goals as goal

pub returns-then-not-is_init : goal.returns-then-not-is_init
unfolding numbers
returns-then-not-is_init c = search rules
