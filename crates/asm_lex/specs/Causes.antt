-- The numbers of refusals (profile).
use Rattle.std.specs.Prelude.{ℕ}
use Rattle.asm_lex.specs.declared.fault.SourceCause.{SourceCause}
use Rattle.asm_lex.specs.declared.fault.SourceCause.TheVariants as cause

abbrev pub cause_number : SourceCause → ℕ
cause_number cause.NotAscii = 1
cause_number cause.BadCharacter = 2
cause_number cause.OpenComment = 3
cause_number cause.OpenString = 4
cause_number cause.BadEscape = 5
cause_number cause.BadNumber = 6
cause_number cause.BadRegister = 7
cause_number cause.BadOperand = 8
cause_number cause.BadScale = 9
cause_number cause.UnknownDirective = 10
cause_number cause.BadArgument = 11
cause_number cause.DoubledLabel = 12
cause_number cause.TooLong = 13
cause_number cause.TooManySymbols = 14
