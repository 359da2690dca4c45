-- What the answer to a source that is refused says.
use Rattle.std.specs.Prelude.{ℕ, List, Result, Ok, Err}
use Rattle.asm_lex.specs.declared.fault.SourceFault.{SourceFault}
use Rattle.asm_lex.specs.declared.fault.SourceFault.TheVariants as fault
use Rattle.asm_source.specs.declared.tree.SourceItem.{SourceItem}
use Rattle.asm_parse.specs.Refusals.{Refused}

-- a refusal has the line and the cause of what is refused first
abbrev pub RefusedFor : List ℕ → Result (List SourceItem) SourceFault → Type 0
RefusedFor text (Ok x) = Unit {0}
RefusedFor text (Err fault.Memory) = Unit {0}
RefusedFor text (Err (fault.At l c)) = Refused text l c
