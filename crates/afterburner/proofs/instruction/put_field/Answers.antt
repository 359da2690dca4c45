use Rattle.std.proofs.Common.{rules}
use Rattle.afterburner.proofs.instruction.put_field.Goals as goal

pub returns-in-Some : goal.returns-in-Some
returns-in-Some c = search rules
