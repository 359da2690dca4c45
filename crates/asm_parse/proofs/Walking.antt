-- The first word that is refused, and where all words go on, what ends them.
use Rattle.std.proofs.Common.{◌≡◌, ℕ, Bool, true, false, cond, List, [], ◌∷◌, ◌++◌, length, Option, Some, None, Result, Ok, Err, refl, sym, ap, ◌∙◌, inl, inr, append_assoc}
use Rattle.std.specs.Prelude.{◌&&◌, ◌||◌, ◌+◌, not, is_none, unwrap_or}
use Rattle.std.proofs.lemmas.Bool.{and_parts}
use Rattle.asm_lex.specs.declared.fault.SourceCause.{SourceCause}
use Rattle.asm_lex.specs.declared.fault.SourceCause.TheVariants as cause
use Rattle.asm_lex.specs.Words.{Word}
use Rattle.asm_argument.specs.declared.terminal.Terminal.{Terminal}
use Rattle.asm_argument.specs.declared.terminal.Terminal.TheVariants as terminal
use Rattle.asm_statement.specs.declared.directive.Directive.{Directive}
use Rattle.asm_statement.specs.declared.state.StatementState.{StatementState}
use Rattle.asm_statement.specs.declared.state.StatementState.TheVariants as state
use Rattle.asm_statement.specs.ScopeView.{ScopeView}
use Rattle.asm_statement.specs.Definers.{is_defining}
use Rattle.asm_statement.specs.Scope.{fresh}
use Rattle.asm_statement.specs.Directives.{directive_of, is_dotted}
use Rattle.asm_statement.specs.Statement.{step, next_step, fault_line, doom, pending, stopped, left_open, open_at_end, is_unknown, is_taken, lacks_names, is_place, stray_cause}
use Rattle.asm_statement.specs.Reading.{Fault, placed, is_longer, ending_at, with_end, longer, next_word}
use Rattle.asm_argument.specs.Terminals.{terminal_of}
use Rattle.asm_statement.specs.Running.{◌>>=◌}
use Rattle.asm_parse.specs.Statements.{terminals}
use Rattle.asm_parse.specs.Refusals.{Ending, IsBeginning, IsNoBeginning, StatementPlace, Reaches, percent_cause, behind_cause, refused_cause, byte_cause}
use Rattle.asm_parse.proofs.Words.{read_words}
use Rattle.asm_parse.proofs.Scopes.{GoodIn, fresh_good}
use Rattle.asm_parse.proofs.Quiet.{Any, any_next, WordGoes, word_goes, Answer, doomed_is}
use Rattle.asm_parse.proofs.Dying.{words_doomed}
use Rattle.asm_parse.proofs.Stated.{words_append, statements_run}
use Rattle.asm_parse.proofs.Collected.{are_statements}
use Rattle.asm_parse.proofs.Written.{IsName, words_at}
use Rattle.asm_parse.proofs.Completing.{completed}
use Rattle.asm_parse.proofs.Closing.{AreNamed, words_fine}
use Rattle.asm_parse.proofs.Later.{is_later, Leads-on, leads_on}
use Rattle.asm_parse.proofs.Places.{named_fails, behind_is}

-- ---- the fault of words and what ends them

abbrev pub fault_in : ScopeView → StatementState → List Word → Ending → Option Fault
fault_in sc st [] Ending.whole = None
fault_in sc st [] (Ending.broken l c) = Some (stopped sc st l c)
fault_in sc st [] (Ending.comment l) = Some (left_open sc st l)
fault_in sc st (w ∷ ws) e = elim (placed (fault_line sc st w.line) (next_word sc st w)) [ Ok y ↦ fault_in y.0 y.1 ws e | Err f ↦ Some f ]

pub some_same : (a b : Fault) → ◌≡◌ {A = Option Fault} (Some a) (Some b) → a ≡ b
some_same a b h = cc

-- ---- where some source begins so, and where none does

pub beginning : (ws : List Word) (sc : ScopeView) (st : StatementState) → AreNamed ws → read_words fresh state.Start ws ≡ Ok (sc, st)
    → doom sc st ≡ None → IsBeginning ws
beginning ws sc st named runs alive =
    let fine = words_fine ws fresh state.Start (sc, st) named (fresh_good IsName) tt runs in
    let d = completed sc st fine.scope fine.state alive in (
      words_at 0 0 d.pieces,
      d.last,
      are_statements (ws ++ words_at 0 0 d.pieces) fresh d.last
          (words_append ws (words_at 0 0 d.pieces) fresh state.Start (sc, st) runs ∙ d.runs 0 0),
    )

err_not_ok : {A : Type 0} {f : Fault} {y : A} (r : Result A Fault) → r ≡ Err f → r ≡ Ok y → ⊥
err_not_ok r e h = absurd cc

pub refused_never : (ws : List Word) (w : Word) (sc : ScopeView) (st : StatementState) (f : Fault)
    → read_words fresh state.Start ws ≡ Ok (sc, st) → placed (fault_line sc st w.line) (next_word sc st w) ≡ Err f
    → IsNoBeginning (ws ++ w ∷ [])
refused_never ws w sc st f runs h = λ more sc2 statements.
    let g : read_words fresh state.Start (ws ++ (w ∷ more)) ≡ Ok (sc2, state.Start) =
    ap (read_words fresh state.Start) (sym (append_assoc ws (w ∷ []) more)) ∙ statements_run statements in
    let k : read_words sc st (w ∷ more) ≡ Ok (sc2, state.Start) = sym (words_append ws (w ∷ more) fresh state.Start (sc, st) runs) ∙ g in
    let e : read_words sc st (w ∷ more) ≡ Err f =
    ap (λ (r : Result (ScopeView × StatementState) Fault). r >>= λ y. read_words y.0 y.1 more) h in
    err_not_ok (read_words sc st (w ∷ more)) e k

pub doomed_never : (ws : List Word) (w : Word) (sc : ScopeView) (st : StatementState) (z : ScopeView × StatementState) (l : ℕ)
    → read_words fresh state.Start ws ≡ Ok (sc, st) → next_word sc st w ≡ Ok z → GoodIn Any z.0 → doom z.0 z.1 ≡ Some l
    → IsNoBeginning (ws ++ w ∷ [])
doomed_never ws w sc st z l runs h good d = λ more sc2 statements.
    let g : read_words fresh state.Start (ws ++ (w ∷ more)) ≡ Ok (sc2, state.Start) =
    ap (read_words fresh state.Start) (sym (append_assoc ws (w ∷ []) more)) ∙ statements_run statements in
    let k : read_words sc st (w ∷ more) ≡ Ok (sc2, state.Start) = sym (words_append ws (w ∷ more) fresh state.Start (sc, st) runs) ∙ g in
    let e : read_words sc st (w ∷ more) ≡ read_words z.0 z.1 more =
    ap (λ (r : Answer). placed (fault_line sc st w.line) r >>= λ y. read_words y.0 y.1 more) h in
    words_doomed more z.0 z.1 l (sc2, state.Start) good d (sym e ∙ k) refl

-- ---- what is found

pub data Found (all : List Word) (e : Ending) (f : Fault) : Type 0 where
  word : {sc : ScopeView} {p : StatementPlace} (front rest : List Word) (w : Word) → all ≡ front ++ w ∷ rest → IsBeginning front
      → IsNoBeginning (front ++ w ∷ []) → Reaches front sc p
      → f ≡ (w.line, refused_cause sc p (terminal_of w.kind w.bytes) (terminals rest)) → Found all e f
  byte : {sc : ScopeView} {p : StatementPlace} {line : ℕ} {c : SourceCause} → e ≡ Ending.broken line c → IsBeginning all → Reaches all sc p
      → f ≡ (line, byte_cause sc p c) → Found all e f
  comment : {line : ℕ} → e ≡ Ending.comment line → IsBeginning all → f ≡ (line, cause.OpenComment) → Found all e f

-- ---- a word that doesn't go on

pub word_fails : (sc : ScopeView) (st : StatementState) (w : Word) (c : SourceCause) → next_word sc st w ≡ Err c
    → next_step sc st w.line (terminal_of w.kind w.bytes) ≡ Err c
word_fails sc st w c h = by_test (is_longer st w.at w.kind w.bytes) h
  where
    by_result : (r : Answer) → with_end (w.at + length w.bytes) r ≡ Err c → r ≡ Err c
    by_result (Ok y) h = absurd cc
    by_result (Err d) h = cc

    by_test : (t : Bool) → ◌≡◌ {A = Answer}
        (cond t (Ok (sc, longer st (w.at + length w.bytes) w.bytes))
        (with_end (w.at + length w.bytes) (next_step sc st w.line (terminal_of w.kind w.bytes)))) (Err c)
        → next_step sc st w.line (terminal_of w.kind w.bytes) ≡ Err c
    by_test true h = absurd cc
    by_test false h = by_result (next_step sc st w.line (terminal_of w.kind w.bytes)) h

-- after a `%` that may not stand there
pub stray_fault : (sc : ScopeView) (l : ℕ) (c : SourceCause) (ws : List Word) (e : Ending) (f : Fault) → is_place c ≡ true
    → fault_in sc (state.Stray l c) ws e ≡ Some f → f ≡ (l, percent_cause c (terminals ws))
stray_fault sc l c [] e f is h = by_end e h
  where
    nothing : (c : SourceCause) → is_place c ≡ true → percent_cause c [] ≡ cause.BadRegister
    nothing cause.BadOperand is = refl
    nothing cause.BadArgument is = refl
    nothing _ is = absurd cc

    by_end : (e : Ending) → fault_in sc (state.Stray l c) [] e ≡ Some f → f ≡ (l, percent_cause c [])
    by_end Ending.whole h = absurd cc
    by_end (Ending.broken k d) h = sym (some_same _ f h) ∙ ap (λ (x : SourceCause). (l, x)) (sym (nothing c is))
    by_end (Ending.comment k) h = sym (some_same _ f h) ∙ ap (λ (x : SourceCause). (l, x)) (sym (nothing c is))
stray_fault sc l c (w ∷ ws) e f is h = by_terminal (terminal_of w.kind w.bytes) h
  where
    behind : (c : SourceCause) (s : Terminal) → is_place c ≡ true → percent_cause c (s ∷ terminals ws) ≡ stray_cause c s
    behind cause.BadOperand (terminal.Name n) is = refl
    behind cause.BadArgument (terminal.Name n) is = refl
    behind cause.BadOperand _ is = refl
    behind cause.BadArgument _ is = refl
    behind _ s is = absurd cc

    percent : (c : SourceCause) → is_place c ≡ true → stray_cause c terminal.Percent ≡ cause.BadRegister
    percent c is = refl

    by_terminal : (s : Terminal)
        → ◌≡◌ {A = Option Fault} (elim (placed l (with_end (w.at + length w.bytes) (next_step sc (state.Stray l c) w.line s)))
        [ Ok y ↦ fault_in y.0 y.1 ws e | Err g ↦ Some g ]) (Some f) → f ≡ (l, percent_cause c (s ∷ terminals ws))
    by_terminal terminal.Percent h = sym (some_same _ f h) ∙ ap (λ (x : SourceCause). (l, x)) (sym (behind c terminal.Percent is))
    by_terminal s h = sym (some_same _ f h) ∙ ap (λ (x : SourceCause). (l, x)) (sym (behind c s is))

-- ---- what a word makes dead

and_third : (a b c d : Bool) → (a && b && c && d) ≡ true → c ≡ true
and_third true true true d h = refl
and_third true true false d h = absurd cc
and_third true false c d h = absurd cc
and_third false b c d h = absurd cc

defining_some : (o : Option Directive) → is_defining o ≡ true → is_none o ≡ false
defining_some None h = absurd cc
defining_some (Some k) h = refl

-- of a name with which no statement begins
abbrev pub first_name_cause : ScopeView → List ℕ → List Terminal → SourceCause
first_name_cause sc n rest = refused_cause sc StatementPlace.first (terminal.Name n) rest

name_pending : (sc : ScopeView) (b l : ℕ) (n : List ℕ) (c : SourceCause) → doom sc (state.Named b n) ≡ Some l
    → unwrap_or (pending sc (state.Named b n)) c ≡ first_name_cause sc n []
name_pending sc b l n c d = by_test (is_unknown sc n) refl
  where
    by_test : (t : Bool) → is_unknown sc n ≡ t → unwrap_or (pending sc (state.Named b n)) c ≡ first_name_cause sc n []
    by_test true e =
        let none : is_none (directive_of n) ≡ true = (and_parts (is_dotted n && not sc.skipping) (is_none (directive_of n)) e).1 in
        rw (e, none) refl
    by_test false e =
        let either : ((is_unknown sc n && is_taken sc n) || lacks_names sc n) ≡ true = doomed_is _ b l d in
        let lacks : lacks_names sc n ≡ true = sym (ap (λ (t : Bool). (t && is_taken sc n) || lacks_names sc n) e) ∙ either in
        let some : is_none (directive_of n) ≡ false =
        defining_some (directive_of n) (and_third (is_dotted n) (not sc.skipping) (is_defining (directive_of n)) _ lacks) in
        rw (e, lacks, some) refl

longer_alive : (sc : ScopeView) (st : StatementState) (w : Word) (l : ℕ) → is_longer st w.at w.kind w.bytes ≡ true
    → doom sc (longer st (w.at + length w.bytes) w.bytes) ≡ Some l → ⊥
longer_alive sc (state.Sectioned b n m e) w l h d = absurd cc
longer_alive sc _ w l h d = absurd cc

later_alive : (sc : ScopeView) (st : StatementState) (e l : ℕ) → is_later st ≡ true → doom sc (ending_at e st) ≡ Some l → ⊥
later_alive sc (state.Named b n) e l h d = absurd cc
later_alive sc (state.Stray k c) e l h d = absurd cc
later_alive sc state.Start e l h d = absurd cc
later_alive sc _ e l h d = absurd cc

pub data Doomed (sc : ScopeView) (st : StatementState) (w : Word) (z : ScopeView × StatementState) : Type 0 where
  name : (n : List ℕ) → st ≡ state.Start → terminal_of w.kind w.bytes ≡ terminal.Name n → z ≡ (sc, state.Named w.line n) → Doomed sc st w z
  astray : (c : SourceCause) → terminal_of w.kind w.bytes ≡ terminal.Percent → step sc st w.line terminal.Percent ≡ Err c
      → is_place c ≡ true → z ≡ (fresh, state.Stray (fault_line sc st w.line) c) → Doomed sc st w z

pub doomed_word : (sc : ScopeView) (st : StatementState) (w : Word) (z : ScopeView × StatementState) (l : ℕ) → next_word sc st w ≡ Ok z
    → doom z.0 z.1 ≡ Some l → Doomed sc st w z
doomed_word sc st w z l h d = elim (word_goes sc st w z h) [
  | WordGoes.on t k ↦ absurd (longer_alive sc st w l t (sym (ap (λ (x : ScopeView × StatementState). doom x.0 x.1) k) ∙ d))
  | WordGoes.as_terminal y t f k ↦ by_lead y k (leads_on sc st w.line (terminal_of w.kind w.bytes) y f)
]
  where
    by_lead : (y : ScopeView × StatementState) → z ≡ (y.0, ending_at (w.at + length w.bytes) y.1)
        → Leads-on sc st w.line (terminal_of w.kind w.bytes) y → Doomed sc st w z
    by_lead y k (Leads-on.later e) =
        absurd (later_alive y.0 y.1 (w.at + length w.bytes) l e (sym (ap (λ (x : ScopeView × StatementState). doom x.0 x.1) k) ∙ d))
    by_lead y k (Leads-on.name n s e x) =
        Doomed.name n s e (k ∙ ap (λ (q : ScopeView × StatementState). (q.0, ending_at (w.at + length w.bytes) q.1)) x)
    by_lead y k (Leads-on.astray c s e p x) =
        Doomed.astray c s e p (k ∙ ap (λ (q : ScopeView × StatementState). (q.0, ending_at (w.at + length w.bytes) q.1)) x)

abbrev pub placed_in : ℕ → List Word → Ending → Answer → Option Fault
placed_in line ws e r = elim (placed line r) [ Ok y ↦ fault_in y.0 y.1 ws e | Err f ↦ Some f ]

named_start : (b : ℕ) (n : List ℕ) → state.Named b n ≡ state.Start → ⊥
named_start b n e = absurd cc

-- after a name with which no statement begins
pub name_fault : (sc : ScopeView) (b : ℕ) (n : List ℕ) (ws : List Word) (e : Ending) (f : Fault) → GoodIn Any sc
    → doom sc (state.Named b n) ≡ Some b → fault_in sc (state.Named b n) ws e ≡ Some f → f ≡ (b, first_name_cause sc n (terminals ws))
name_fault sc b n [] Ending.whole f good d h = absurd cc
name_fault sc b n [] (Ending.broken l c) f good d h =
    sym (some_same (stopped sc (state.Named b n) l c) f h)
    ∙ (ap (λ (x : Option ℕ). (unwrap_or x l, unwrap_or (pending sc (state.Named b n)) c)) d ∙ ap (λ (x : SourceCause). (b, x))
    (name_pending sc b b n c d))
name_fault sc b n [] (Ending.comment l) f good d h =
    sym (some_same (left_open sc (state.Named b n) l) f h)
    ∙ (ap (λ (x : Option ℕ). open_at_end x (pending sc (state.Named b n)) l) d ∙ ap (λ (x : SourceCause). (b, x))
    (name_pending sc b b n cause.OpenComment d))
name_fault sc b n (w ∷ ws) e f good d h = by_result (next_word sc (state.Named b n) w) refl
    (sym (ap (λ (x : Option ℕ). placed_in (unwrap_or x w.line) ws e (next_word sc (state.Named b n) w)) d) ∙ h)
  where
    by_doomed : (z : ScopeView × StatementState) → Doomed sc (state.Named b n) w z → fault_in z.0 z.1 ws e ≡ Some f
        → f ≡ (b, behind_cause sc (StatementPlace.named n) (terminal_of w.kind w.bytes) (terminals ws))
    by_doomed z (Doomed.name m s k x) g = absurd (named_start b n s)
    by_doomed z (Doomed.astray c s k p x) g =
        let at_b : z ≡ (fresh, state.Stray b c) = x ∙ ap (λ (o : Option ℕ). (fresh, state.Stray (unwrap_or o w.line) c)) d in
        let fault : f ≡ (b, percent_cause c (terminals ws)) =
        stray_fault fresh b c ws e f p (sym (ap (λ (q : ScopeView × StatementState). fault_in q.0 q.1 ws e) at_b) ∙ g) in
        let same : behind_cause sc (StatementPlace.named n) (terminal_of w.kind w.bytes) (terminals ws) ≡ percent_cause c (terminals ws) =
        ap (λ (y : Terminal). behind_cause sc (StatementPlace.named n) y (terminals ws)) s
        ∙ ap (λ (y : SourceCause). percent_cause y (terminals ws)) (named_fails sc b n terminal.Percent c k) in
        fault ∙ ap (λ (y : SourceCause). (b, y)) (sym same)

    by_result : (r : Answer) → next_word sc (state.Named b n) w ≡ r → placed_in b ws e r ≡ Some f
        → f ≡ (b, first_name_cause sc n (terminal_of w.kind w.bytes ∷ terminals ws))
    by_result (Err c) k g =
        let same = behind_is sc (StatementPlace.named n) sc (state.Named b n) w.line (terminal_of w.kind w.bytes) (terminals ws) c
        (λ x y. named_fails sc b n (terminal_of w.kind w.bytes) x y) (word_fails sc (state.Named b n) w c k) in
        sym (some_same (b, c) f g) ∙ ap (λ (x : SourceCause). (b, x)) (sym same)
    by_result (Ok z) k g =
        let next = any_next sc (state.Named b n) w z good k in
        let dead : doom z.0 z.1 ≡ Some b =
        elim next.doom [ inl same ↦ same ∙ d | inr (none, x) ↦ absurd (none_not (doom sc (state.Named b n)) none d) ] in
        by_doomed z (doomed_word sc (state.Named b n) w z b k dead) g
      where
        none_not : {l : ℕ} (o : Option ℕ) → o ≡ None → o ≡ Some l → ⊥
        none_not o a c = absurd cc
