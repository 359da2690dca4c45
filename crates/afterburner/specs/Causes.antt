-- The numbers of the causes, and which refusal of a statement is which cause.
use Rattle.std.specs.Prelude.{ℕ}
use Rattle.asm_instruction.specs.declared.assembled.Refusal.{Refusal}
use Rattle.asm_instruction.specs.declared.assembled.Refusal.TheVariants as refusal
use Rattle.afterburner.specs.declared.fault.BurnCause.{BurnCause}
use Rattle.afterburner.specs.declared.fault.BurnCause.TheVariants as cause

abbrev pub cause_number : BurnCause → ℕ
cause_number cause.UnknownInstruction = 20
cause_number cause.RefusedInstruction = 21
cause_number cause.Operands = 22
cause_number cause.ValueRange = 23
cause_number cause.TextTooLarge = 24
cause_number cause.InitTooLarge = 25
cause_number cause.DataInText = 26
cause_number cause.TooManySites = 27

abbrev pub cause_of : Refusal → BurnCause
cause_of refusal.UnknownInstruction = cause.UnknownInstruction
cause_of refusal.RefusedInstruction = cause.RefusedInstruction
cause_of refusal.Operands = cause.Operands
cause_of refusal.ValueRange = cause.ValueRange
