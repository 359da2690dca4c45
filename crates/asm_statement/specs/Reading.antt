-- A source, read from left to right.
use Rattle.std.specs.Prelude.{◌≡◌, ℕ, ◌+◌, ◌==◌, ◌&&◌, Bool, false, List, ◌++◌, length, Option, Some, None, Result, Ok, Err, if◌then◌else◌}
use Rattle.asm_lex.specs.declared.fault.SourceCause.{SourceCause}
use Rattle.asm_lex.specs.declared.fault.SourceFault.{SourceFault}
use Rattle.asm_lex.specs.declared.fault.SourceFault.TheVariants as fault
use Rattle.asm_lex.specs.declared.token.Token.{Token}
use Rattle.asm_lex.specs.declared.token.TokenKind.{TokenKind}
use Rattle.asm_argument.specs.Terminals.{terminal_of}
use Rattle.asm_statement.specs.declared.state.StatementState.{StatementState}
use Rattle.asm_statement.specs.declared.state.StatementState.TheVariants as state
use Rattle.asm_statement.specs.declared.fault.StepFault.{StepFault}
use Rattle.asm_statement.specs.declared.fault.StepFault.TheVariants as step_fault
use Rattle.asm_statement.specs.ScopeView.{ScopeView}
use Rattle.asm_statement.specs.Statement.{next_step, fault_line}
use Rattle.asm_lex.specs.Words.{Word}
use Rattle.asm_lex.specs.Scans.{word_of}
use Rattle.asm_statement.specs.Items.{is_part}

-- ---- a section's name

abbrev pub is_longer : StatementState → ℕ → TokenKind → List ℕ → Bool
is_longer (state.Sectioned b n m e) at k bytes = (e == at) && is_part k bytes
is_longer st at k bytes = false

-- the name with these bytes after it, which end at this place
abbrev pub longer : StatementState → ℕ → List ℕ → StatementState
longer (state.Sectioned b n m e) end bytes = state.Sectioned b n (m ++ bytes) end
longer st end bytes = st

-- where the name's first token ends
abbrev pub ending_at : ℕ → StatementState → StatementState
ending_at end (state.Sectioned b n m e) = state.Sectioned b n m end
ending_at end st = st

abbrev pub with_end : ℕ → Result (ScopeView × StatementState) SourceCause → Result (ScopeView × StatementState) SourceCause
with_end end (Ok x) = Ok (x.0, ending_at end x.1)
with_end end (Err c) = Err c

-- the next word of a source
abbrev pub next_word : ScopeView → StatementState → Word → Result (ScopeView × StatementState) SourceCause
next_word sc st w =
    if is_longer st w.at w.kind w.bytes then Ok (sc, longer st (w.at + length w.bytes) w.bytes)
    else with_end (w.at + length w.bytes) (next_step sc st w.line (terminal_of w.kind w.bytes))

abbrev pub Fault : Type 0
Fault = ℕ × SourceCause

abbrev pub placed : ℕ → Result (ScopeView × StatementState) SourceCause → Result (ScopeView × StatementState) Fault
placed line (Ok r) = Ok r
placed line (Err c) = Err (line, c)

abbrev pub fed : ScopeView → StatementState → List ℕ → ℕ → Option Token → Result (ScopeView × StatementState) Fault
fed sc st seen line None = Ok (sc, st)
fed sc st seen line (Some t) = placed (fault_line sc st line) (next_word sc st (word_of seen line t))

abbrev pub at_line : ℕ → Result StatementState StepFault → Result StatementState SourceFault
at_line line (Ok st) = Ok st
at_line line (Err (step_fault.Cause c)) = Err (fault.At line c)
at_line line (Err step_fault.Memory) = Err fault.Memory

abbrev pub Feeds : ScopeView → Result StatementState SourceFault → Result (ScopeView × StatementState) Fault → Type 0
Feeds new (Ok st) r = r ≡ Ok (new, st)
Feeds new (Err (fault.At l c)) r = r ≡ Err (l, c)
Feeds new (Err fault.Memory) r = Unit {0}
