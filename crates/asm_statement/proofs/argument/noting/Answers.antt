use Rattle.std.proofs.Common.{rules}
use Rattle.asm_statement.proofs.argument.noting.Goals as goal

pub returns-then-is_defined : goal.returns-then-is_defined
returns-then-is_defined c = search rules

pub returns-then-not-has_room : goal.returns-then-not-has_room
returns-then-not-has_room c = search rules

pub returns : goal.returns
returns c = search rules
