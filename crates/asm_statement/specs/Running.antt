-- The state of reading, and what one byte does to it.
use Rattle.std.specs.Prelude.{◌≡◌, ℕ, ◌+◌, List, [], ◌∷◌, ◌++◌, Option, Result, Ok, Err}
use Rattle.asm_lex.specs.declared.fault.SourceFault.{SourceFault}
use Rattle.asm_lex.specs.declared.fault.SourceFault.TheVariants as fault
use Rattle.asm_lex.specs.declared.token.Token.{Token}
use Rattle.asm_lex.specs.declared.machine.Mode.{Mode}
use Rattle.asm_lex.specs.declared.machine.Mode.TheVariants as mode
use Rattle.asm_lex.specs.declared.machine.Next.{Next}
use Rattle.asm_lex.specs.declared.machine.Next.TheVariants.{Goes, Stops}
use Rattle.asm_lex.specs.declared.machine.Stepped.{Stepped}
use Rattle.asm_lex.specs.Machine.{stepped}
use Rattle.asm_lex.specs.Words.{line_after}
use Rattle.asm_statement.specs.declared.state.StatementState.{StatementState}
use Rattle.asm_statement.specs.declared.state.StatementState.TheVariants as state
use Rattle.asm_source.specs.declared.tree.SourceItem.{SourceItem}
use Rattle.asm_statement.specs.ScopeView.{ScopeView}
use Rattle.asm_statement.specs.Scope.{fresh}
use Rattle.asm_statement.specs.Reading.{Fault, fed}
use Rattle.asm_statement.specs.Statement.{stopped, left_open}

-- what has been read: the statements' side, the tokens' side, the bytes, their number and the line
pub record Running : Type 0 where
  pub scope : ScopeView
  pub state : StatementState
  pub mode : Mode
  pub seen : List ℕ
  pub at : ℕ
  pub line : ℕ

infixl 10 ◌>>=◌
abbrev pub ◌>>=◌ : {A B : Type 0} → Result A Fault → (A → Result B Fault) → Result B Fault
(Ok x) >>= f = f x
(Err e) >>= f = Err e

abbrev pub goes_on : ℕ → ScopeView × StatementState → Next → Result (ScopeView × StatementState × Mode) Fault
goes_on line y (Goes n) = Ok (y.0, y.1, n)
goes_on line y (Stops l c) = Err (stopped y.0 y.1 line c)

abbrev pub second_does : ScopeView → StatementState → List ℕ → ℕ → Option Token → Next → Result (ScopeView × StatementState × Mode) Fault
second_does sc st seen line t n = fed sc st seen line t >>= λ y. goes_on line y n

-- what the tokens do that end with a byte, and where the token machine goes; `seen` has the byte
abbrev pub byte_does : ScopeView → StatementState → List ℕ → ℕ → Stepped → Result (ScopeView × StatementState × Mode) Fault
byte_does sc st seen line s = fed sc st seen line s.first >>= λ x. second_does x.0 x.1 seen line s.second s.next

unfoldable pub one_byte_over : ScopeView → StatementState → Mode → List ℕ → ℕ → ℕ → ℕ → Result (ScopeView × StatementState × Mode) Fault
one_byte_over sc st m seen at line b = byte_does sc st seen line (stepped m at line b)

abbrev pub moved : Running → ℕ → ScopeView × StatementState × Mode → Running
moved r b x = record { scope = x.0; state = x.1; mode = x.2; seen = r.seen ++ b ∷ []; at = r.at + 1; line = line_after r.line b }

unfoldable pub one_byte : Running → ℕ → Result Running Fault
one_byte r b = one_byte_over r.scope r.state r.mode (r.seen ++ b ∷ []) r.at r.line b >>= λ x. Ok (moved r b x)

abbrev pub DoesByte : ScopeView → Result (StatementState × Mode) SourceFault → Result (ScopeView × StatementState × Mode) Fault → Type 0
DoesByte new (Ok x) r = r ≡ Ok (new, x.0, x.1)
DoesByte new (Err (fault.At l c)) r = r ≡ Err (l, c)
DoesByte new (Err fault.Memory) r = Unit {0}

abbrev pub run : Running → List ℕ → Result Running Fault
run r [] = Ok r
run r (b ∷ bs) = one_byte r b >>= λ s. run s bs

abbrev pub start : Running
start = record { scope = fresh; state = state.Start; mode = mode.Between; seen = []; at = 0; line = 1 }

-- a comment that is open at the end
abbrev pub closed : Running → Mode → Result Running Fault
closed r (mode.Block l) = Err (left_open r.scope r.state l)
closed r _ = Ok r

-- A source: a last line that lacks its newline is read as if it had one.
unfoldable pub read : List ℕ → Result Running Fault
read text = run start (text ++ 10 ∷ []) >>= λ r. closed r r.mode

-- what a function returned is what this reading gives, unless memory ran out
abbrev pub Runs : Result (ScopeView × StatementState × Mode) SourceFault → Result Running Fault → Type 0
Runs (Ok x) r = (s : Running) × (r ≡ Ok s) × (s.scope ≡ x.0) × (s.state ≡ x.1) × (s.mode ≡ x.2)
Runs (Err (fault.At l c)) r = r ≡ Err (l, c)
Runs (Err fault.Memory) r = Unit {0}

abbrev pub Parses : Result (List SourceItem) SourceFault → Result Running Fault → Type 0
Parses (Ok x) r = (s : Running) × (r ≡ Ok s) × (s.scope.items ≡ x)
Parses (Err (fault.At l c)) r = r ≡ Err (l, c)
Parses (Err fault.Memory) r = Unit {0}
