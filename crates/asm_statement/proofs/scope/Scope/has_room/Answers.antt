use Rattle.std.proofs.Common.{rules}
use Rattle.asm_statement.proofs.scope.Scope.has_room.Goals as goal

pub returns-else-holds : goal.returns-else-holds
returns-else-holds c = search rules
