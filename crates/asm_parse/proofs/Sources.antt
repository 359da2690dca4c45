-- What is read is a source, and a source is read; what a refusal says of the text.
use Rattle.std.proofs.Common.{◌≡◌, ℕ, ◌≤◌, ◌<◌, List, [], ◌∷◌, ◌++◌, length, Result, Ok, Err, refl, sym, ap, subst, ◌∙◌, None, arith}
use Rattle.std.specs.Prelude.{IfOk}
use Rattle.asm_lex.specs.declared.lexing.TheConstants.{LIMIT}
use Rattle.asm_lex.specs.declared.machine.Mode.TheVariants as mode
use Rattle.asm_lex.specs.declared.machine.Next.TheVariants.{Goes}
use Rattle.asm_lex.specs.declared.fault.SourceCause.TheVariants as cause
use Rattle.asm_lex.specs.declared.fault.SourceFault.{SourceFault}
use Rattle.asm_lex.specs.declared.fault.SourceFault.TheVariants as fault
use Rattle.asm_lex.specs.Scans.{Scan, scan}
use Rattle.asm_lex.proofs.Again.{again}
use Rattle.asm_lex.proofs.Found.{found}
use Rattle.asm_source.specs.declared.tree.SourceItem.{SourceItem}
use Rattle.asm_statement.specs.declared.state.StatementState.{StatementState}
use Rattle.asm_statement.specs.declared.state.StatementState.TheVariants as state
use Rattle.asm_statement.specs.ScopeView.{ScopeView}
use Rattle.asm_statement.specs.Scope.{fresh}
use Rattle.asm_lex.specs.Lines.{first_lines}
use Rattle.asm_parse.specs.Source.{Says, SourceAs}
use Rattle.asm_parse.specs.Reads.{ReadsAs, DeadAt, GoesOn, AliveBefore}
use Rattle.asm_statement.specs.Running.{Running, closed, run, start, read, Parses}
use Rattle.asm_parse.proofs.Words.{read_words}
use Rattle.asm_parse.proofs.Lines.{bind_ok}
use Rattle.asm_parse.proofs.Dying.{dead_line, alive_line}
use Rattle.asm_statement.specs.Statement.{doom}
use Rattle.asm_parse.proofs.Closing.{closed_goes_on}
use Rattle.asm_lex.proofs.TextTokens.{IsClosed}
use Rattle.asm_parse.proofs.Linking.{run_append, link, unlink, last_mode, closed_between, closed_ok, ok_same, not_both}
use Rattle.asm_parse.proofs.Stated.{statements_run}
use Rattle.asm_parse.proofs.Collected.{are_statements}
use Rattle.asm_parse.proofs.Alive.{newline_state}

-- What is read is a source.
pub read_is : (text : List ℕ) (r : Running) → read text ≡ Ok r → Says text r.scope.items
unfolding read
read_is text r h =
    let s = bind_ok (run start (text ++ 10 ∷ [])) (λ s. closed s s.mode) r h in
    let a = run_append start s.0 text (10 ∷ []) s.1 in
    let m = closed_between s.0 r s.0.mode (last_mode a.0 s.0 a.2) s.2 in
    let st : r.state ≡ state.Start = ap (λ (x : Running). x.state) (sym m.1) ∙ newline_state a.0 s.0 a.2 m.0 in
    let l = link (text ++ 10 ∷ []) start s.0 s.1 in
    with_scan (scan mode.Between [] 0 1 (text ++ 10 ∷ [])) refl (l.ending ∙ ap Goes m.0)
    (l.words ∙ (ap (λ (x : Running). Ok (x.scope, x.state)) m.1 ∙ ap (λ (x : StatementState). Ok (r.scope, x)) st))
  where
    with_scan : (s : Scan) → scan mode.Between [] 0 1 (text ++ 10 ∷ []) ≡ s → s.ending ≡ Goes mode.Between
        → read_words fresh state.Start s.words ≡ Ok (r.scope, state.Start) → Says text r.scope.items
    with_scan s e ends words =
        let whole : scan mode.Between [] 0 1 (text ++ 10 ∷ []) ≡ record { words = s.words; ending = Goes mode.Between } =
        e ∙ rw (← ends) refl in
        (s.words, r.scope, found (text ++ 10 ∷ []) [] 0 1 s.words refl whole, are_statements s.words fresh r.scope words, refl)

-- What is a source is read.
pub is_read : (text : List ℕ) (items : List SourceItem) → Says text items → (r : Running) × (read text ≡ Ok r) × (r.scope.items ≡ items)
unfolding read
is_read text items (ws, sc, lexed, statements, is) =
    let whole = again lexed [] refl in
    let u = unlink (text ++ 10 ∷ []) start mode.Between (sc, state.Start) (ap (λ (x : Scan). x.ending) whole)
    (ap (λ (x : Scan). read_words fresh state.Start x.words) whole ∙ statements_run statements) in
    (u.last, rw u.runs (closed_ok u.last u.last.mode u.same_mode), ap (λ (x : ScopeView × StatementState). x.0.items) u.same ∙ is)

pub parsed_is : (text : List ℕ) (x : Result (List SourceItem) SourceFault) → length text ≤ LIMIT → Parses x (read text)
    → IfOk x (λ s. SourceAs text s)
parsed_is text (Ok x) small (r, e, is) = (small, subst (Says text) is (read_is text r e))
parsed_is text (Err e) small h = tt

pub are_parsed : (text : List ℕ) (x : Result (List SourceItem) SourceFault) → Parses x (read text) → (items : List SourceItem)
    → SourceAs text items → ReadsAs items x
are_parsed text x p items (small, s) = let g = is_read text items s in by_result x g.0 g.1 g.2 p
  where
    by_result : (x : Result (List SourceItem) SourceFault) (r : Running) → read text ≡ Ok r → r.scope.items ≡ items
        → Parses x (read text) → ReadsAs items x
    by_result (Ok x) r e is (q, f, same) = let g : q ≡ r =
        ok_same q r (sym f ∙ e) in sym same ∙ (ap (λ (z : Running). z.scope.items) g ∙ is)
    by_result (Err fault.Memory) r e is p = tt
    by_result (Err (fault.At l c)) r e is p = not_both (sym p ∙ e)

pub none_parsed : (text : List ℕ) → LIMIT < length text → (items : List SourceItem) → SourceAs text items
    → ReadsAs items (Err (fault.At 1 cause.TooLong))
none_parsed text long items (small, s) = absurd (omega arith)

pub refused_line : (text : List ℕ) (r : Result (List SourceItem) SourceFault) → Parses r (read text) → DeadAt text r
refused_line text (Ok x) h = tt
refused_line text (Err fault.Memory) h = tt
refused_line text (Err (fault.At l c)) h = λ other more reading.
    let g = is_read (first_lines l text ++ more) reading.0 reading.1 in
    dead_line text l c h other more (g.0, g.1)

pub refused_alive : (text : List ℕ) (r : Result (List SourceItem) SourceFault) → Parses r (read text) → AliveBefore text r
refused_alive text (Ok x) h = tt
refused_alive text (Err fault.Memory) h = tt
refused_alive text (Err (fault.At l c)) h = λ other n lt. further n (alive_line text (l, c) h other n lt)
  where
    further : (n : ℕ) → (s : Running) × (run start (first_lines n text) ≡ Ok s) × (doom s.scope s.state ≡ None)
        × IsClosed (Goes s.mode) → GoesOn text n
    further n (s, e, d, k) = let g =
        closed_goes_on (first_lines n text) s e k d in (g.0, (g.1.0.scope.items, read_is (first_lines n text ++ g.0) g.1.0 g.1.1))
