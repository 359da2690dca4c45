-- What the code keeps of a source that is read.
use Rattle.std.specs.Prelude.{◌≡◌, ℕ, List, Result, Ok, Err}
use Rattle.asm_lex.specs.declared.fault.SourceFault.{SourceFault}
use Rattle.asm_lex.specs.declared.fault.SourceFault.TheVariants as fault
use Rattle.asm_lex.specs.declared.machine.Mode.{Mode}
use Rattle.asm_lex.specs.declared.machine.Stepped.{Stepped}
use Rattle.asm_statement.specs.declared.state.StatementState.{StatementState}
use Rattle.asm_statement.specs.declared.reading.Reading.{Reading}
use Rattle.asm_statement.specs.ScopeView.{ScopeView}
use Rattle.asm_statement.specs.Reading.{Fault}
use Rattle.asm_statement.specs.Running.{byte_does}

-- what a function returned is this, unless memory ran out
abbrev pub Comes : Result (Reading × Mode) SourceFault → Result (ScopeView × StatementState × Mode) Fault → Type 0
Comes (Ok x) r = r ≡ Ok (x.0.scope, x.0.state, x.1)
Comes (Err (fault.At l c)) r = r ≡ Err (l, c)
Comes (Err fault.Memory) r = Unit {0}

-- the result of the tokens of a byte
abbrev pub Reads : Reading → List ℕ → ℕ → Stepped → Result (Reading × Mode) SourceFault → Type 0
Reads r seen line s x = Comes x (byte_does r.scope r.state seen line s)
