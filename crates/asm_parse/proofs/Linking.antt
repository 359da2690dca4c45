-- The bytes one by one, and the words of a source.
use Rattle.std.proofs.Common.{◌≡◌, ℕ, ◌+◌, List, [], ◌∷◌, ◌++◌, Option, Some, None, Result, Ok, Err, refl, sym, ap, subst, ◌∙◌}
use Rattle.asm_lex.specs.declared.token.Token.{Token}
use Rattle.asm_lex.specs.declared.machine.Mode.{Mode}
use Rattle.asm_lex.specs.declared.machine.Mode.TheVariants as mode
use Rattle.asm_lex.specs.declared.machine.Next.{Next}
use Rattle.asm_lex.specs.declared.machine.Next.TheVariants.{Goes, Stops}
use Rattle.asm_lex.specs.declared.machine.Stepped.{Stepped}
use Rattle.asm_lex.specs.Machine.{stepped}
use Rattle.asm_lex.specs.Words.{line_after}
use Rattle.asm_lex.specs.Scans.{Scan, scan, with_token, word_of}
use Rattle.asm_lex.proofs.TextTokens.{IsClosed, at_newline, ending_same}
use Rattle.asm_statement.specs.declared.state.StatementState.{StatementState}
use Rattle.asm_statement.specs.ScopeView.{ScopeView}
use Rattle.asm_statement.specs.Statement.{fault_line}
use Rattle.asm_statement.specs.Reading.{Fault, fed, placed, next_word}
use Rattle.asm_statement.specs.Running.{Running, closed, goes_on, second_does, byte_does, one_byte_over, moved, one_byte, run}
use Rattle.asm_parse.proofs.Words.{read_words}
use Rattle.asm_parse.proofs.Lines.{bind_ok, run_ok}

-- a token that may be there, and the words after it
token_read : (sc : ScopeView) (st : StatementState) (seen : List ℕ) (line : ℕ) (t : Option Token) (s : Scan)
    (y : ScopeView × StatementState) → fed sc st seen line t ≡ Ok y
    → read_words sc st (with_token seen line t s).words ≡ read_words y.0 y.1 s.words
token_read sc st seen line None s y h = let e : (sc, st) ≡ y = cc in ap (λ (z : ScopeView × StatementState). read_words z.0 z.1 s.words) e
token_read sc st seen line (Some t) s y h = rw h refl

pub goes_is : (line : ℕ) (y : ScopeView × StatementState) (n : Next) (x : ScopeView × StatementState × Mode) → goes_on line y n ≡ Ok x
    → (n ≡ Goes x.2) × (y ≡ (x.0, x.1))
goes_is line y (Goes m) x h = let e : (y.0, y.1, m) ≡ x =
    cc in (ap (λ (z : ScopeView × StatementState × Mode). Goes z.2) e, ap (λ (z : ScopeView × StatementState × Mode). (z.0, z.1)) e)
goes_is line y (Stops l c) x h = absurd cc

abbrev pub rest_scan : List ℕ → ℕ → ℕ → ℕ → List ℕ → Next → Scan
rest_scan behind at line b bs next = elim next [
  | Goes n ↦ scan n behind (at + 1) (line_after line b) bs
  | Stops l c ↦ record { words = []; ending = Stops l c }
]

-- what one byte has done
over_words : (sc : ScopeView) (st : StatementState) (seen : List ℕ) (line : ℕ) (s : Stepped) (x : ScopeView × StatementState × Mode)
    (rest : Scan) → byte_does sc st seen line s ≡ Ok x
    → (s.next ≡ Goes x.2) × (read_words sc st (with_token seen line s.first (with_token seen line s.second rest)).words
    ≡ read_words x.0 x.1 rest.words)
over_words sc st seen line s x rest h =
    let y = bind_ok (fed sc st seen line s.first) (λ y. second_does y.0 y.1 seen line s.second s.next) x h in
    let z = bind_ok (fed y.0.0 y.0.1 seen line s.second) (λ z. goes_on line z s.next) x y.2 in
    let g = goes_is line z.0 s.next x z.2 in (
      g.0,
      token_read sc st seen line s.first _ y.0 y.1
          ∙ (token_read y.0.0 y.0.1 seen line s.second rest z.0 z.1
          ∙ ap (λ (q : ScopeView × StatementState). read_words q.0 q.1 rest.words) g.1),
    )

pub ok_same : (a c : Running) → ◌≡◌ {A = Result Running Fault} (Ok a) (Ok c) → a ≡ c
ok_same a c e = cc

pub not_both : {f : Fault} {r : Running} → ◌≡◌ {A = Result Running Fault} (Err f) (Ok r) → ⊥
not_both e = absurd cc

pub record Linked (sc : ScopeView) (st : StatementState) (s : Scan) (t : Running) : Type 0 where
  pub ending : s.ending ≡ Goes t.mode
  pub words : read_words sc st s.words ≡ Ok (t.scope, t.state)

pub link : (bs : List ℕ) (r t : Running) → run r bs ≡ Ok t → Linked r.scope r.state (scan r.mode r.seen r.at r.line bs) t
unfolding one_byte one_byte_over
link [] r t h = let e : r ≡ t =
    cc in record { ending = ap (λ (x : Running). Goes x.mode) e; words = ap (λ (x : Running). Ok (x.scope, x.state)) e }
link (b ∷ bs) r t h =
    let s = bind_ok (one_byte r b) (λ s. run s bs) t h in
    let x = bind_ok (byte_does r.scope r.state (r.seen ++ b ∷ []) r.line (stepped r.mode r.at r.line b)) (λ x. Ok (moved r b x)) s.0 s.1 in
    from_byte x.0 x.1 (subst (λ (q : Running). Linked q.scope q.state (scan q.mode q.seen q.at q.line bs) t)
    (sym (ok_same (moved r b x.0) s.0 x.2)) (link bs s.0 t s.2))
  where
    from_byte : (x : ScopeView × StatementState × Mode) → byte_does r.scope r.state (r.seen ++ b ∷ []) r.line
        (stepped r.mode r.at r.line b) ≡ Ok x
        → Linked x.0 x.1 (scan x.2 (r.seen ++ b ∷ []) (r.at + 1) (line_after r.line b) bs) t
        → Linked r.scope r.state (scan r.mode r.seen r.at r.line (b ∷ bs)) t
    from_byte x e l =
        let rest = rest_scan (r.seen ++ b ∷ []) r.at r.line b bs (stepped r.mode r.at r.line b).next in
        let o = over_words r.scope r.state (r.seen ++ b ∷ []) r.line (stepped r.mode r.at r.line b) x rest e in
        let is : rest ≡ scan x.2 (r.seen ++ b ∷ []) (r.at + 1) (line_after r.line b) bs =
        ap (rest_scan (r.seen ++ b ∷ []) r.at r.line b bs) o.0 in
        record {
          ending = ending_same (r.seen ++ b ∷ []) r.line (stepped r.mode r.at r.line b).first
              (with_token (r.seen ++ b ∷ []) r.line (stepped r.mode r.at r.line b).second rest)
              ∙ (ending_same (r.seen ++ b ∷ []) r.line (stepped r.mode r.at r.line b).second rest
              ∙ (ap (λ (z : Scan). z.ending) is ∙ l.ending));
          words = o.1 ∙ (ap (λ (z : Scan). read_words x.0 x.1 z.words) is ∙ l.words);
        }

pub run_append : (r t : Running) (bs cs : List ℕ) → run r (bs ++ cs) ≡ Ok t → (s : Running) × (run r bs ≡ Ok s) × (run s cs ≡ Ok t)
run_append r t [] cs h = (r, refl, h)
run_append r t (b ∷ bs) cs h =
    let s = bind_ok (one_byte r b) (λ s. run s (bs ++ cs)) t h in
    let g = run_append s.0 t bs cs s.2 in
    (g.0, run_ok r s.0 b bs s.1 ∙ g.1, g.2)

pub last_mode : (r t : Running) → run r (10 ∷ []) ≡ Ok t → IsClosed (Goes t.mode)
unfolding one_byte one_byte_over
last_mode r t h =
    let s = bind_ok (one_byte r 10) (λ s. run s []) t h in
    let x =
    bind_ok (byte_does r.scope r.state (r.seen ++ 10 ∷ []) r.line (stepped r.mode r.at r.line 10)) (λ x. Ok (moved r 10 x)) s.0 s.1 in
    let o = over_words r.scope r.state (r.seen ++ 10 ∷ []) r.line (stepped r.mode r.at r.line 10) x.0
    (record { words = []; ending = Goes mode.Between }) x.1 in
    let closed : IsClosed (Goes x.0.2) = subst IsClosed o.0 (at_newline r.mode r.at r.line) in
    at_last x.0 closed (x.2 ∙ s.2)
  where
    at_last : (x : ScopeView × StatementState × Mode) → IsClosed (Goes x.2) → ◌≡◌ {A = Result Running Fault} (Ok (moved r 10 x)) (Ok t)
        → IsClosed (Goes t.mode)
    at_last x k e = let g : moved r 10 x ≡ t = cc in subst (λ (y : Running). IsClosed (Goes y.mode)) g k

pub closed_between : (r s : Running) (m : Mode) → IsClosed (Goes m) → closed r m ≡ Ok s → (m ≡ mode.Between) × (r ≡ s)
closed_between r s mode.Between k h = (refl, cc)
closed_between r s (mode.Block l) k h = absurd cc
closed_between r s mode.Slash k h = absurd k
closed_between r s mode.Line k h = absurd k
closed_between r s (mode.Star l) k h = absurd k
closed_between r s (mode.Word a) k h = absurd k
closed_between r s (mode.Number a d) k h = absurd k
closed_between r s (mode.Quote a) k h = absurd k
closed_between r s (mode.Text a) k h = absurd k
closed_between r s (mode.Escape a) k h = absurd k

-- ---- the other way

-- a token that has been read among the words
token_unread : (sc : ScopeView) (st : StatementState) (seen : List ℕ) (line : ℕ) (t : Option Token) (s : Scan)
    (y : ScopeView × StatementState) → read_words sc st (with_token seen line t s).words ≡ Ok y
    → (z : ScopeView × StatementState) × (fed sc st seen line t ≡ Ok z) × (read_words z.0 z.1 s.words ≡ Ok y)
token_unread sc st seen line None s y h = ((sc, st), refl, h)
token_unread sc st seen line (Some t) s y h =
    bind_ok (placed (fault_line sc st line) (next_word sc st (word_of seen line t))) (λ z. read_words z.0 z.1 s.words) y h

pub record Unlinked (r : Running) (bs : List ℕ) (m : Mode) (y : ScopeView × StatementState) : Type 0 where
  pub last : Running
  pub runs : run r bs ≡ Ok last
  pub same_mode : last.mode ≡ m
  pub same : (last.scope, last.state) ≡ y

one_ok : (r : Running) (b : ℕ) (z w : ScopeView × StatementState) (n : Mode)
    → fed r.scope r.state (r.seen ++ b ∷ []) r.line (stepped r.mode r.at r.line b).first ≡ Ok z
    → fed z.0 z.1 (r.seen ++ b ∷ []) r.line (stepped r.mode r.at r.line b).second ≡ Ok w → (stepped r.mode r.at r.line b).next ≡ Goes n
    → one_byte r b ≡ Ok (moved r b (w.0, w.1, n))
unfolding one_byte one_byte_over
one_ok r b z w n e f g = rw (e, f, g) refl

pub unlink : (bs : List ℕ) (r : Running) (m : Mode) (y : ScopeView × StatementState) → (scan r.mode r.seen r.at r.line bs).ending ≡ Goes m
    → read_words r.scope r.state (scan r.mode r.seen r.at r.line bs).words ≡ Ok y → Unlinked r bs m y
unlink [] r m y e h =
    let same : (r.scope, r.state) ≡ y = cc in
    let mode_is : r.mode ≡ m = cc in
    record { last = r; runs = refl; same_mode = mode_is; same = same }
unlink (b ∷ bs) r m y e h =
    from_next (stepped r.mode r.at r.line b).next refl e h (λ q e h. unlink bs q m y e h)
  where
    from_next : (n : Next) → (stepped r.mode r.at r.line b).next ≡ n
        → (with_token (r.seen ++ b ∷ []) r.line (stepped r.mode r.at r.line b).first
        (with_token (r.seen ++ b ∷ []) r.line (stepped r.mode r.at r.line b).second
        (rest_scan (r.seen ++ b ∷ []) r.at r.line b bs n))).ending ≡ Goes m
        → read_words r.scope r.state
        (with_token (r.seen ++ b ∷ []) r.line (stepped r.mode r.at r.line b).first
        (with_token (r.seen ++ b ∷ []) r.line (stepped r.mode r.at r.line b).second
        (rest_scan (r.seen ++ b ∷ []) r.at r.line b bs n))).words ≡ Ok y
        → ((q : Running) → (scan q.mode q.seen q.at q.line bs).ending ≡ Goes m → read_words q.scope q.state
        (scan q.mode q.seen q.at q.line bs).words ≡ Ok y → Unlinked q bs m y)
        → Unlinked r (b ∷ bs) m y
    from_next (Stops l c) is e h ih =
        let f : Stops l c ≡ Goes m =
        sym (ending_same (r.seen ++ b ∷ []) r.line (stepped r.mode r.at r.line b).first _ ∙ ending_same (r.seen ++ b ∷ []) r.line
        (stepped r.mode r.at r.line b).second (record { words = []; ending = Stops l c })) ∙ e in
        absurd cc
    from_next (Goes n) is e h ih =
        let rest = scan n (r.seen ++ b ∷ []) (r.at + 1) (line_after r.line b) bs in
        let z = token_unread r.scope r.state (r.seen ++ b ∷ []) r.line (stepped r.mode r.at r.line b).first
        (with_token (r.seen ++ b ∷ []) r.line (stepped r.mode r.at r.line b).second rest) y h in
        let w = token_unread z.0.0 z.0.1 (r.seen ++ b ∷ []) r.line (stepped r.mode r.at r.line b).second rest y z.2 in
        let ends : rest.ending ≡ Goes m =
        sym (ending_same (r.seen ++ b ∷ []) r.line (stepped r.mode r.at r.line b).first
        (with_token (r.seen ++ b ∷ []) r.line (stepped r.mode r.at r.line b).second rest)
        ∙ ending_same (r.seen ++ b ∷ []) r.line (stepped r.mode r.at r.line b).second rest) ∙ e in
        let u = ih (moved r b (w.0.0, w.0.1, n)) ends w.2 in
        record {
          last = u.last;
          runs = run_ok r (moved r b (w.0.0, w.0.1, n)) b bs (one_ok r b z.0 w.0 n z.1 w.1 is) ∙ u.runs;
          same_mode = u.same_mode;
          same = u.same;
        }

pub closed_ok : (r : Running) (m : Mode) → m ≡ mode.Between → closed r m ≡ Ok r
closed_ok r m e = rw e refl
