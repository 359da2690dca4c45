-- With what no argument opens.
use Rattle.std.specs.Prelude.{Bool, true, false, if◌then◌else◌}
use Rattle.asm_lex.specs.declared.fault.SourceCause.{SourceCause}
use Rattle.asm_lex.specs.declared.fault.SourceCause.TheVariants as cause
use Rattle.asm_argument.specs.declared.terminal.Terminal.{Terminal}
use Rattle.asm_argument.specs.declared.terminal.Terminal.TheVariants as terminal

-- a token with which no argument begins
abbrev pub begins_nothing : Terminal → Bool
begins_nothing terminal.Plus = true
begins_nothing terminal.Close = true
begins_nothing terminal.Colon = true
begins_nothing terminal.At = true
begins_nothing _ = false

-- where an argument of another kind, or none, stands in an argument's place
abbrev pub misplaced : Terminal → SourceCause
misplaced terminal.Big = cause.BadNumber
misplaced s = if begins_nothing s then cause.BadOperand else cause.BadArgument
