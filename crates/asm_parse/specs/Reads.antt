-- What is read of a text, and what a refusal says of the lines of one that is no source.
use Rattle.std.specs.Prelude.{◌≡◌, ℕ, ◌<◌, List, ◌++◌, Result, Ok, Err}
use Rattle.asm_lex.specs.declared.fault.SourceCause.TheVariants as cause
use Rattle.asm_lex.specs.declared.fault.SourceFault.{SourceFault}
use Rattle.asm_lex.specs.declared.fault.SourceFault.TheVariants as fault
use Rattle.asm_lex.specs.Lines.{first_lines}
use Rattle.asm_source.specs.declared.tree.SourceItem.{SourceItem}
use Rattle.asm_parse.specs.Source.{Says}

abbrev pub HasReading : List ℕ → Type 0
HasReading text = (items : List SourceItem) × Says text items

-- no text that begins with the lines up to this one has a reading
abbrev pub IsDeadLine : List ℕ → ℕ → Type 0
IsDeadLine text line = (more : List ℕ) → HasReading (first_lines line text ++ more) → ⊥

abbrev pub DeadAt : List ℕ → Result (List SourceItem) SourceFault → Type 0
DeadAt text (Ok x) = Unit {0}
DeadAt text (Err fault.Memory) = Unit {0}
DeadAt text (Err (fault.At l c)) = (c ≡ cause.OpenComment → ⊥) → IsDeadLine text l

-- the items, unless memory ran out
abbrev pub ReadsAs : List SourceItem → Result (List SourceItem) SourceFault → Type 0
ReadsAs items (Ok x) = x ≡ items
ReadsAs items (Err fault.Memory) = Unit {0}
ReadsAs items (Err (fault.At l c)) = ⊥

-- some text that begins with these lines has a reading
abbrev pub GoesOn : List ℕ → ℕ → Type 0
GoesOn text n = (more : List ℕ) × HasReading (first_lines n text ++ more)

abbrev pub AliveBefore : List ℕ → Result (List SourceItem) SourceFault → Type 0
AliveBefore text (Ok x) = Unit {0}
AliveBefore text (Err fault.Memory) = Unit {0}
AliveBefore text (Err (fault.At l c)) = (c ≡ cause.OpenComment → ⊥) → (n : ℕ) → n < l → GoesOn text n
