use Rattle.std.proofs.Common.{refl}
use Rattle.ia32_text.specs.Arguments.{arguments_of}
use Rattle.ia32_text.specs.Statement.{statement_with, statement_of}
use Rattle.ia32_text.specs.Text.{instruction_text}
use Rattle.ia32_text.proofs.laws.statements_as_text.Goals as goal

pub returns : goal.returns
unfolding instruction_text statement_with statement_of arguments_of
returns c insn at len = refl
