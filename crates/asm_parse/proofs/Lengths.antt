-- What a function returned that reads a text unless it is too long.
use Rattle.std.proofs.Common.{◌≡◌, ◌⊎◌, ℕ, ◌≤◌, ◌<◌, List, length, Result, Err, sym, subst, inl, inr}
use Rattle.std.proofs.lemmas.Bool.{cases_lt}
use Rattle.asm_lex.specs.declared.lexing.TheConstants.{LIMIT}
use Rattle.asm_lex.specs.declared.fault.SourceCause.TheVariants as cause
use Rattle.asm_lex.specs.declared.fault.SourceFault.{SourceFault}
use Rattle.asm_lex.specs.declared.fault.SourceFault.TheVariants as fault
use Rattle.asm_source.specs.declared.tree.SourceItem.{SourceItem}
use Rattle.asm_statement.specs.Running.{read, Parses}

pub by_length : (P : Result (List SourceItem) SourceFault → Type 0) (text : List ℕ) (r : Result (List SourceItem) SourceFault)
    → (LIMIT < length text → r ≡ Err (fault.At 1 cause.TooLong)) → (length text ≤ LIMIT → Parses r (read text))
    → (length text ≤ LIMIT → Parses r (read text) → P r) → (LIMIT < length text → P (Err (fault.At 1 cause.TooLong))) → P r
by_length P text r long exact of_read of_long = by_cases (cases_lt LIMIT (length text))
  where
    by_cases : (LIMIT < length text) ⊎ (length text ≤ LIMIT) → P r
    by_cases (inl lt) = subst P (sym (long lt)) (of_long lt)
    by_cases (inr le) = of_read le (exact le)
