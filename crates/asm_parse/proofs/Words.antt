-- The words of a source, one by one.
use Rattle.std.proofs.Common.{◌≡◌, List, [], ◌∷◌, ◌++◌, Result, Ok, refl, ap}
use Rattle.asm_lex.specs.Words.{Word}
use Rattle.asm_argument.specs.declared.terminal.Terminal.{Terminal}
use Rattle.asm_argument.specs.Terminals.{terminal_of}
use Rattle.asm_statement.specs.declared.state.StatementState.{StatementState}
use Rattle.asm_statement.specs.ScopeView.{ScopeView}
use Rattle.asm_statement.specs.Statement.{fault_line}
use Rattle.asm_statement.specs.Reading.{Fault, placed, next_word}
use Rattle.asm_statement.specs.Running.{◌>>=◌}
use Rattle.asm_parse.specs.Statements.{terminals}

abbrev pub read_words : ScopeView → StatementState → List Word → Result (ScopeView × StatementState) Fault
read_words sc st [] = Ok (sc, st)
read_words sc st (w ∷ ws) = placed (fault_line sc st w.line) (next_word sc st w) >>= λ y. read_words y.0 y.1 ws

pub terminals-append : (ws vs : List Word) → terminals (ws ++ vs) ≡ terminals ws ++ terminals vs
terminals-append [] vs = refl
terminals-append (w ∷ ws) vs = ap (λ (x : List Terminal). terminal_of w.kind w.bytes ∷ x) (terminals-append ws vs)
