-- The source that a text is.
use Rattle.std.specs.Prelude.{◌≡◌, ◌⊎◌, ℕ, ◌≤◌, ◌<◌, List, Result, Ok, Err, length}
use Rattle.asm_lex.specs.declared.fault.SourceCause.{SourceCause}
use Rattle.asm_lex.specs.declared.fault.SourceCause.TheVariants as source
use Rattle.asm_lex.specs.declared.lexing.TheConstants.{LIMIT}
use Rattle.asm_lex.specs.Causes.{cause_number as source_number}
use Rattle.asm_source.specs.declared.tree.SourceItem.{SourceItem}
use Rattle.asm_parse.specs.Source.{SourceAs}
use Rattle.asm_parse.specs.Refusals.{Refused}
use Rattle.pv_build.specs.Lines.{refusal_at_line}

-- a text that is no source: too long, or refused in this line for this cause, in the grammar's words
abbrev pub IsNoSource : List ℕ → ℕ × SourceCause → Type 0
IsNoSource text fault = ((LIMIT < length text) × (fault ≡ (1, source.TooLong))) ⊎ ((length text ≤ LIMIT) × Refused text fault.0 fault.1)

-- the items of a text, or why it is no source
abbrev pub SaysSource : List ℕ → Result (List SourceItem) (ℕ × SourceCause) → Type 0
SaysSource text (Ok items) = SourceAs text items
SaysSource text (Err fault) = IsNoSource text fault

abbrev pub source_line : ℕ → SourceCause → List ℕ
source_line line cause = refusal_at_line (source_number cause) line
