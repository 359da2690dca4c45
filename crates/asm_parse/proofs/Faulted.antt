-- A refusal is that of the first word with which no source goes on, or of what ends the words.
use Rattle.std.proofs.Common.{◌≡◌, ℕ, List, [], ◌∷◌, ◌++◌, Option, Some, None, Result, Ok, Err, refl, sym, ap, subst, ◌∙◌}
use Rattle.asm_lex.specs.declared.fault.SourceCause.{SourceCause}
use Rattle.asm_lex.specs.declared.fault.SourceFault.{SourceFault}
use Rattle.asm_lex.specs.declared.fault.SourceFault.TheVariants as fault
use Rattle.asm_lex.specs.declared.token.Token.{Token}
use Rattle.asm_lex.specs.declared.machine.Mode.{Mode}
use Rattle.asm_lex.specs.declared.machine.Mode.TheVariants as mode
use Rattle.asm_lex.specs.declared.machine.Next.{Next}
use Rattle.asm_lex.specs.declared.machine.Next.TheVariants.{Goes, Stops}
use Rattle.asm_lex.specs.Machine.{stepped}
use Rattle.asm_lex.specs.Words.{Word}
use Rattle.asm_lex.specs.Scans.{Scan, scan, with_token}
use Rattle.asm_lex.proofs.FaultLines.{StopsIn, step_in}
use Rattle.asm_statement.specs.declared.state.StatementState.{StatementState}
use Rattle.asm_statement.specs.declared.state.StatementState.TheVariants as state
use Rattle.asm_source.specs.declared.tree.SourceItem.{SourceItem}
use Rattle.asm_statement.specs.ScopeView.{ScopeView}
use Rattle.asm_statement.specs.Scope.{fresh}
use Rattle.asm_statement.specs.Statement.{fault_line, stopped, left_open}
use Rattle.asm_parse.specs.Statements.{terminals}
use Rattle.asm_statement.specs.Reading.{Fault, fed, placed, next_word}
use Rattle.asm_argument.specs.Terminals.{terminal_of}
use Rattle.asm_statement.specs.Running.{Running, ◌>>=◌, goes_on, second_does, one_byte_over, moved, one_byte, run, start, closed, read, Parses}
use Rattle.asm_parse.specs.Refusals.{Ending, Worded, refused_cause, byte_cause, Refused}
use Rattle.asm_parse.specs.Answers.{RefusedFor}
use Rattle.asm_parse.proofs.Closing.{AreNamed, token_is}
use Rattle.asm_parse.proofs.Walking.{fault_in, Found}
use Rattle.asm_parse.proofs.Refused.{found_fault}
use Rattle.asm_parse.proofs.Worded.{EndsSo, text_worded}
use Rattle.asm_parse.proofs.Linking.{rest_scan}
use Rattle.asm_parse.proofs.Dying.{finish}

-- the fault of words and of what a scan ends with
abbrev fault_next : ScopeView → StatementState → List Word → Next → Option Fault
fault_next sc st [] (Stops l c) = Some (stopped sc st l c)
fault_next sc st [] (Goes (mode.Block l)) = Some (left_open sc st l)
fault_next sc st [] (Goes m) = None
fault_next sc st (w ∷ ws) n =
    elim (placed (fault_line sc st w.line) (next_word sc st w)) [ Ok y ↦ fault_next y.0 y.1 ws n | Err f ↦ Some f ]

abbrev of_scan : ScopeView → StatementState → Scan → Option Fault
of_scan sc st s = fault_next sc st s.words s.ending

token_fault : (sc : ScopeView) (st : StatementState) (seen : List ℕ) (line : ℕ) (t : Option Token) (s : Scan)
    → of_scan sc st (with_token seen line t s) ≡ elim (fed sc st seen line t) [ Ok y ↦ of_scan y.0 y.1 s | Err f ↦ Some f ]
token_fault sc st seen line None s = refl
token_fault sc st seen line (Some t) s = refl

err_same : {A : Type 0} (f g : Fault) → ◌≡◌ {A = Result A Fault} (Err f) (Err g) → f ≡ g
err_same f g h = cc

some_is : (f g : Fault) → f ≡ g → ◌≡◌ {A = Option Fault} (Some f) (Some g)
some_is f g h = ap (λ (x : Fault). Some x) h

closed_fault : (r : Running) (m : Mode) (f : Fault) → closed r m ≡ Err f → fault_next r.scope r.state [] (Goes m) ≡ Some f
closed_fault r (mode.Block l) f h = some_is _ f (err_same _ f h)
closed_fault r _ f h = absurd cc

run_fault : (bs : List ℕ) (r : Running) (f : Fault) → finish r bs ≡ Err f
    → of_scan r.scope r.state (scan r.mode r.seen r.at r.line bs) ≡ Some f
unfolding one_byte one_byte_over
run_fault [] r f h = closed_fault r r.mode f h
run_fault (b ∷ bs) r f h =
    token_fault r.scope r.state (r.seen ++ b ∷ []) r.line (stepped r.mode r.at r.line b).first
    (with_token (r.seen ++ b ∷ []) r.line (stepped r.mode r.at r.line b).second
    (rest_scan (r.seen ++ b ∷ []) r.at r.line b bs (stepped r.mode r.at r.line b).next))
    ∙ by_first (fed r.scope r.state (r.seen ++ b ∷ []) r.line (stepped r.mode r.at r.line b).first) h (λ q g. run_fault bs q f g)
  where
    by_next : (z : ScopeView × StatementState) (n : Next) → StopsIn r.line n
        → ◌≡◌ {A = Result Running Fault} (((goes_on r.line z n >>= λ x. Ok (moved r b x)) >>= λ s. run s bs) >>= λ s. closed s s.mode)
        (Err f)
        → ((q : Running) → finish q bs ≡ Err f → of_scan q.scope q.state (scan q.mode q.seen q.at q.line bs) ≡ Some f)
        → of_scan z.0 z.1 (rest_scan (r.seen ++ b ∷ []) r.at r.line b bs n) ≡ Some f
    by_next z (Goes m) here g ih = ih (moved r b (z.0, z.1, m)) g
    by_next z (Stops l c) here g ih =
        ap (λ (x : ℕ). Some (stopped z.0 z.1 x c)) here ∙ some_is (stopped z.0 z.1 r.line c) f (err_same (stopped z.0 z.1 r.line c) f g)

    by_second : (y : ScopeView × StatementState) (v : Result (ScopeView × StatementState) Fault)
        → ◌≡◌ {A = Result Running Fault}
        ((((v >>= λ z. goes_on r.line z (stepped r.mode r.at r.line b).next) >>= λ x. Ok (moved r b x)) >>= λ s. run s bs) >>= λ s.
        closed s s.mode) (Err f)
        → ((q : Running) → finish q bs ≡ Err f → of_scan q.scope q.state (scan q.mode q.seen q.at q.line bs) ≡ Some f)
        → (elim v [
          | Ok z ↦ of_scan z.0 z.1 (rest_scan (r.seen ++ b ∷ []) r.at r.line b bs (stepped r.mode r.at r.line b).next)
          | Err g
              ↦ Some g
        ]) ≡ Some f
    by_second y (Ok z) g ih = by_next z (stepped r.mode r.at r.line b).next (step_in r.mode r.at r.line b) g ih
    by_second y (Err e) g ih = some_is e f (err_same e f g)

    by_first : (v : Result (ScopeView × StatementState) Fault)
        → ◌≡◌ {A = Result Running Fault}
        ((((v >>= λ y. second_does y.0 y.1 (r.seen ++ b ∷ []) r.line (stepped r.mode r.at r.line b).second
        (stepped r.mode r.at r.line b).next) >>= λ x. Ok (moved r b x)) >>= λ s. run s bs) >>= λ s. closed s s.mode) (Err f)
        → ((q : Running) → finish q bs ≡ Err f → of_scan q.scope q.state (scan q.mode q.seen q.at q.line bs) ≡ Some f)
        → (elim v [
          | Ok y ↦ of_scan y.0 y.1
              (with_token (r.seen ++ b ∷ []) r.line (stepped r.mode r.at r.line b).second
              (rest_scan (r.seen ++ b ∷ []) r.at r.line b bs (stepped r.mode r.at r.line b).next))
          | Err g ↦ Some g
        ]) ≡ Some f
    by_first (Ok y) g ih =
        token_fault y.0 y.1 (r.seen ++ b ∷ []) r.line (stepped r.mode r.at r.line b).second
        (rest_scan (r.seen ++ b ∷ []) r.at r.line b bs (stepped r.mode r.at r.line b).next)
        ∙ by_second y (fed y.0 y.1 (r.seen ++ b ∷ []) r.line (stepped r.mode r.at r.line b).second) g ih
    by_first (Err e) g ih = some_is e f (err_same e f g)

-- ---- the words' names

pub worded_named : {at line : ℕ} {text : List ℕ} {ws : List Word} {e : Ending} → Worded at line text ws e → AreNamed ws
worded_named Worded.none = tt
worded_named (Worded.gap piece rest e g w) = worded_named w
worded_named (Worded.token k piece rest e t w) = (token_is k piece rest t, worded_named w)
worded_named (Worded.broken piece rest e h) = tt
worded_named (Worded.comment h e u) = tt

-- the same fault
same_fault : (ws : List Word) (sc : ScopeView) (st : StatementState) (e : Ending) (n : Next) → EndsSo e n
    → fault_in sc st ws e ≡ fault_next sc st ws n
same_fault [] sc st e n EndsSo.whole = refl
same_fault [] sc st e n EndsSo.broken = refl
same_fault [] sc st e n EndsSo.comment = refl
same_fault (w ∷ ws) sc st e n is = by_result (placed (fault_line sc st w.line) (next_word sc st w)) (λ y. same_fault ws y.0 y.1 e n is)
  where
    by_result : (r : Result (ScopeView × StatementState) Fault)
        → ((y : ScopeView × StatementState) → fault_in y.0 y.1 ws e ≡ fault_next y.0 y.1 ws n)
        → ◌≡◌ {A = Option Fault} (elim r [ Ok y ↦ fault_in y.0 y.1 ws e | Err f ↦ Some f ])
        (elim r [ Ok y ↦ fault_next y.0 y.1 ws n | Err f ↦ Some f ])
    by_result (Ok y) ih = ih y
    by_result (Err f) ih = refl

-- ---- what is refused

refused_at : (text : List ℕ) (l : ℕ) (c : SourceCause) (f : Fault) → f ≡ (l, c) → Refused text f.0 f.1 → Refused text l c
refused_at text l c f h r = subst (λ (x : Fault). Refused text x.0 x.1) h r

found_refused : (text : List ℕ) (ws : List Word) (e : Ending) (l : ℕ) (c : SourceCause) → Worded 0 1 (text ++ 10 ∷ []) ws e
    → Found ws e (l, c) → Refused text l c
found_refused text ws e l c w (Found.word {sc} {p} front rest v whole begins never reaches is) =
    refused_at text l c (v.line, refused_cause sc p (terminal_of v.kind v.bytes) (terminals rest)) (sym is)
    (Refused.word front rest v (subst (λ (x : List Word). Worded 0 1 (text ++ 10 ∷ []) x e) whole w) begins never reaches)
found_refused text ws e l c w (Found.byte {sc} {p} {line} {c = d} ends begins reaches is) =
    refused_at text l c (line, byte_cause sc p d) (sym is) (Refused.byte ws (subst (Worded 0 1 (text ++ 10 ∷ []) ws) ends w) begins reaches)
found_refused text ws e l c w (Found.comment {line} ends begins is) =
    refused_at text l c _ (sym is) (Refused.comment ws (subst (Worded 0 1 (text ++ 10 ∷ []) ws) ends w) begins)

read_refused : (text : List ℕ) (l : ℕ) (c : SourceCause) → read text ≡ Err (l, c) → Refused text l c
unfolding read
read_refused text l c h =
    let w = text_worded text in
    let fault = run_fault (text ++ 10 ∷ []) start (l, c) h in
    let found = found_fault (scan mode.Between [] 0 1 (text ++ 10 ∷ [])).words w.0 (l, c) (worded_named w.2)
    (same_fault (scan mode.Between [] 0 1 (text ++ 10 ∷ [])).words fresh state.Start w.0
    (scan mode.Between [] 0 1 (text ++ 10 ∷ [])).ending w.1 ∙ fault) in
    found_refused text (scan mode.Between [] 0 1 (text ++ 10 ∷ [])).words w.0 l c w.2 found

-- What is refused is refused so.
pub parsed_refused : (text : List ℕ) (r : Result (List SourceItem) SourceFault) → Parses r (read text) → RefusedFor text r
parsed_refused text (Ok x) h = tt
parsed_refused text (Err fault.Memory) h = tt
parsed_refused text (Err (fault.At l c)) h = read_refused text l c h
