-- A step's answer in the words of the reader.
use Rattle.std.proofs.Common.{◌≡◌, ℕ, ◌+◌, false, length, Result, Ok, Err, refl, ap}
use Rattle.asm_lex.specs.declared.fault.SourceCause.{SourceCause}
use Rattle.asm_statement.specs.declared.state.StatementState.{StatementState}
use Rattle.asm_statement.specs.declared.fault.StepFault.{StepFault}
use Rattle.asm_statement.specs.declared.fault.StepFault.TheVariants as step_fault
use Rattle.asm_statement.specs.ScopeView.{ScopeView}
use Rattle.asm_lex.specs.Words.{Word}
use Rattle.asm_lex.specs.declared.fault.SourceFault.{SourceFault}
use Rattle.asm_lex.specs.declared.fault.SourceFault.TheVariants as fault
use Rattle.asm_statement.specs.Statement.{Does, next_step, fault_line}
use Rattle.asm_argument.specs.Terminals.{terminal_of}
use Rattle.asm_statement.specs.Reading.{placed, at_line, Feeds, is_longer, ending_at, with_end, next_word}
use Rattle.asm_argument.specs.declared.terminal.Terminal.{Terminal}

pub feeds : (new : ScopeView) (line : ℕ) (s : Result StatementState StepFault) (r : Result (ScopeView × StatementState) SourceCause)
    → Does new s r → Feeds new (at_line line s) (placed line r)
feeds new line (Ok st) r h = rw h refl
feeds new line (Err (step_fault.Cause c)) r h = rw h refl
feeds new line (Err step_fault.Memory) r h = tt

pub fed_terminal : (new : ScopeView) (line at : ℕ) (s : Result StatementState StepFault)
    (r : Result (ScopeView × StatementState) SourceCause) (out : Result StatementState SourceFault)
    → at ≡ line → out ≡ at_line at s → Does new s r → Feeds new out (placed line r)
fed_terminal new line at s r out e is h = rw (is, e) (feeds new line s r h)

-- ---- a word

pub same_word : (new sc : ScopeView) (st : StatementState) (line : ℕ) (r : Result StatementState SourceFault) (w v : Word) → w ≡ v
    → Feeds new r (placed (fault_line sc st line) (next_word sc st w)) → Feeds new r (placed (fault_line sc st line) (next_word sc st v))
same_word new sc st line r w v e h = rw (← e) h

pub with_ended : (new : ScopeView) (line end : ℕ) (st : StatementState) (r : Result (ScopeView × StatementState) SourceCause)
    → Feeds new (Ok st) (placed line r) → Feeds new (Ok (ending_at end st)) (placed line (with_end end r))
with_ended new line end st (Ok x) h = let g : x ≡ (new, st) = cc in ap (λ (z : ScopeView × StatementState). Ok (z.0, ending_at end z.1)) g
with_ended new line end st (Err c) h = absurd cc

pub with_failed : (new : ScopeView) (line end : ℕ) (f : SourceFault) (r : Result (ScopeView × StatementState) SourceCause)
    → Feeds new (Err f) (placed line r) → Feeds new (Err f) (placed line (with_end end r))
with_failed new line end (fault.At l c) (Ok x) h = absurd cc
with_failed new line end (fault.At l c) (Err d) h = h
with_failed new line end fault.Memory r h = tt

pub failed_word : (new sc : ScopeView) (st : StatementState) (line : ℕ) (w : Word) (s : Terminal) (f : SourceFault)
    → is_longer st w.at w.kind w.bytes ≡ false → s ≡ terminal_of w.kind w.bytes
    → Feeds new (Err f) (placed line (next_step sc st w.line s)) → Feeds new (Err f) (placed line (next_word sc st w))
failed_word new sc st line w s f none e h = rw (none, ← e) (with_failed new line (w.at + length w.bytes) f (next_step sc st w.line s) h)

pub ended_word : (new sc : ScopeView) (st st2 st3 : StatementState) (line : ℕ) (w : Word) (s : Terminal)
    → is_longer st w.at w.kind w.bytes ≡ false → s ≡ terminal_of w.kind w.bytes → st3 ≡ ending_at (w.at + length w.bytes) st2
    → Feeds new (Ok st2) (placed line (next_step sc st w.line s)) → Feeds new (Ok st3) (placed line (next_word sc st w))
ended_word new sc st st2 st3 line w s none e same h =
    rw (none, ← e, same) (with_ended new line (w.at + length w.bytes) st2 (next_step sc st w.line s) h)
