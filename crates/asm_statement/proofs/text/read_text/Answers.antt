use Rattle.std.proofs.Common.{rules}
use Rattle.asm_statement.proofs.text.read_text.Goals as goal

pub returns-clause-exact : goal.returns-clause-exact
returns-clause-exact c = search rules
