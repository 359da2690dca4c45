-- A source, byte by byte.
use Rattle.std.proofs.Common.{◌≡◌, ℕ, ◌+◌, List, [], ◌∷◌, ◌++◌, Result, Ok, Err, refl, sym, subst}
use Rattle.asm_lex.specs.declared.fault.SourceFault.{SourceFault}
use Rattle.asm_lex.specs.declared.fault.SourceFault.TheVariants as fault
use Rattle.asm_lex.specs.declared.machine.Mode.{Mode}
use Rattle.asm_lex.specs.declared.machine.Stepped.{Stepped}
use Rattle.asm_lex.specs.Readers.{ReadsTo}
use Rattle.asm_lex.specs.Words.{line_after}
use Rattle.asm_statement.specs.declared.state.StatementState.{StatementState}
use Rattle.asm_statement.specs.declared.reading.Reading.{Reading}
use Rattle.asm_statement.specs.ScopeView.{ScopeView}
use Rattle.asm_statement.specs.Reading.{Fault}
use Rattle.asm_statement.specs.Readings.{Comes, Reads}
use Rattle.asm_statement.specs.Running.{Running, one_byte_over, one_byte, run, DoesByte, Runs}

abbrev pub running : ScopeView → StatementState → Mode → List ℕ → ℕ → ℕ → Running
running sc st m seen at line = record { scope = sc; state = st; mode = m; seen = seen; at = at; line = line }

step_ok : (sc : ScopeView) (st : StatementState) (m : Mode) (seen : List ℕ) (at line b : ℕ) (bs : List ℕ)
    (x : ScopeView × StatementState × Mode)
    → one_byte_over sc st m (seen ++ b ∷ []) at line b ≡ Ok x → run (running sc st m seen at line) (b ∷ bs) ≡ run
    (running x.0 x.1 x.2 (seen ++ b ∷ []) (at + 1) (line_after line b)) bs
unfolding one_byte
step_ok sc st m seen at line b bs x h = rw h refl

step_err : (sc : ScopeView) (st : StatementState) (m : Mode) (seen : List ℕ) (at line b : ℕ) (bs : List ℕ) (g : Fault)
    → one_byte_over sc st m (seen ++ b ∷ []) at line b ≡ Err g → run (running sc st m seen at line) (b ∷ bs) ≡ Err g
unfolding one_byte
step_err sc st m seen at line b bs g h = rw h refl

-- what a function returned is what this reading gives, unless memory ran out
abbrev pub Ran : Result (Reading × Mode) SourceFault → Result Running Fault → Type 0
Ran (Ok x) r = (s : Running) × (r ≡ Ok s) × (s.scope ≡ x.0.scope) × (s.state ≡ x.0.state) × (s.mode ≡ x.1)
Ran (Err (fault.At l c)) r = r ≡ Err (l, c)
Ran (Err fault.Memory) r = Unit {0}

pub ran : (r : Reading) (m : Mode) (seen : List ℕ) (at line : ℕ) (bs : List ℕ) (result : Result (Reading × Mode) SourceFault)
    → ReadsTo (λ (r : Reading) (seen : List ℕ) (line : ℕ) (s : Stepped) (x : Result (Reading × Mode) SourceFault). Reads r seen line s x) r
    m seen at line bs result
    → Ran result (run (running r.scope r.state m seen at line) bs)
unfolding one_byte_over
ran r m seen at line [] result e =
    subst (λ (x : Result (Reading × Mode) SourceFault). Ran x (run (running r.scope r.state m seen at line) [])) (sym e)
    (running r.scope r.state m seen at line, refl, refl, refl, refl)
ran r m seen at line (b ∷ bs) result (Ok y, does, more) =
    subst (Ran result) (sym (step_ok r.scope r.state m seen at line b bs (y.0.scope, y.0.state, y.1) does))
    (ran y.0 y.1 (seen ++ b ∷ []) (at + 1) (line_after line b) bs result more)
ran r m seen at line (b ∷ bs) result (Err (fault.At l c), does, e) =
    subst (λ (x : Result (Reading × Mode) SourceFault). Ran x (run (running r.scope r.state m seen at line) (b ∷ bs))) (sym e)
    (step_err r.scope r.state m seen at line b bs (l, c) does)
ran r m seen at line (b ∷ bs) result (Err fault.Memory, does, e) =
    subst (λ (x : Result (Reading × Mode) SourceFault). Ran x (run (running r.scope r.state m seen at line) (b ∷ bs))) (sym e) tt

pub comes_failed : (f : SourceFault) (new : ScopeView) (r : Result (ScopeView × StatementState × Mode) Fault)
    → DoesByte new (Err f) r → Comes (Err f) r
comes_failed (fault.At l c) new r h = h
comes_failed fault.Memory new r h = tt

pub ran_failed : (f : SourceFault) (r : Result Running Fault) → Ran (Err f) r → Runs (Err f) r
ran_failed (fault.At l c) r h = h
ran_failed fault.Memory r h = tt
