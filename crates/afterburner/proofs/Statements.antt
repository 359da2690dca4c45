-- The causes of a statement that is no instruction, and the conditions of each.
use Rattle.std.proofs.Common.{◌≡◌, ℕ, ◌≤◌, Bool, List, Result, Err, ◌⊎◌, inl, inr, arith}
use Rattle.asm_source.specs.declared.tree.Argument.{Argument}
use Rattle.asm_source.specs.declared.tree.Body.TheVariants as body
use Rattle.asm_instruction.specs.declared.assembled.Assembled.{Assembled}
use Rattle.asm_instruction.specs.declared.assembled.Refusal.{Refusal}
use Rattle.asm_instruction.specs.declared.assembled.Refusal.TheVariants as refusal
use Rattle.asm_instruction.specs.Assembled.{assembled}
use Rattle.asm_instruction.specs.Refusals.{IsRefused, IsUnknown, IsWithoutRow, HasUnfitNumber}
use Rattle.asm_instruction.proofs.Refusing.{refused_reason, reason_told, unfit_gives}
use Rattle.afterburner.specs.Causes.{cause_number, cause_of}
use Rattle.afterburner.specs.ObjectSoFar.{ObjectSoFar}
use Rattle.afterburner.specs.Reasons.{IsReason}

-- each refusal has its condition
pub statement_reason : (names : List (List ℕ)) (st : ObjectSoFar) (rep : Bool) (name : List ℕ) (args : List Argument) (r : Refusal)
    → assembled rep name args ≡ Err r → IsReason names st (body.Instruction rep name args) (cause_of r)
statement_reason names st rep name args refusal.UnknownInstruction e =
    IsReason.unknown_name (refused_reason rep name args refusal.UnknownInstruction e)
statement_reason names st rep name args refusal.RefusedInstruction e =
    IsReason.refused_name (refused_reason rep name args refusal.RefusedInstruction e)
statement_reason names st rep name args refusal.Operands e = IsReason.no_row (refused_reason rep name args refusal.Operands e)
statement_reason names st rep name args refusal.ValueRange e =
    let both = refused_reason rep name args refusal.ValueRange e in IsReason.number both.1

-- ---- where a condition holds, its cause or a lower one is reported

abbrev pub ToldOf : Result Assembled Refusal → ℕ → Type 0
ToldOf a n = (r : Refusal) × (a ≡ Err r) × (cause_number (cause_of r) ≤ n)

module _ (rep : Bool) (name : List ℕ) (args : List Argument) where
  pub unknown_told : IsUnknown name → ToldOf (assembled rep name args) 20
  unknown_told h = (refusal.UnknownInstruction, reason_told rep name args refusal.UnknownInstruction h, omega arith)

  pub refused_told : IsRefused name → ToldOf (assembled rep name args) 21
  refused_told h = (refusal.RefusedInstruction, reason_told rep name args refusal.RefusedInstruction h, omega arith)

  pub row_told : IsWithoutRow rep name args → ToldOf (assembled rep name args) 22
  row_told h = (refusal.Operands, reason_told rep name args refusal.Operands h, omega arith)

  pub number_told : HasUnfitNumber rep name args → ToldOf (assembled rep name args) 23
  number_told h = by_row (unfit_gives rep name args h)
    where
      by_row : IsWithoutRow rep name args ⊎ (assembled rep name args ≡ Err refusal.ValueRange) → ToldOf (assembled rep name args) 23
      by_row (inl w) = (refusal.Operands, reason_told rep name args refusal.Operands w, omega arith)
      by_row (inr e) = (refusal.ValueRange, e, omega arith)
