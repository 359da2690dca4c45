-- A line after which nothing is dead goes on: an open comment ends, and then the statement.
use Rattle.std.proofs.Common.{◌≡◌, ℕ, ◌+◌, Bool, true, false, cond, List, [], ◌∷◌, ◌++◌, length, None, Result, Ok, refl, ap, subst, ◌∙◌, append_assoc}
use Rattle.std.proofs.lemmas.List.{length-append}
use Rattle.std.specs.Prelude.{◌==◌, nat_lt, ◌^◌}
use Rattle.asm_lex.specs.Bytes.{class_of, is_mark, is_source}
use Rattle.asm_lex.specs.declared.token.TokenKind.{TokenKind}
use Rattle.asm_lex.specs.declared.machine.Mode.{Mode}
use Rattle.asm_lex.specs.declared.machine.Mode.TheVariants as mode
use Rattle.asm_lex.specs.declared.machine.Next.{Next}
use Rattle.asm_lex.specs.declared.machine.Next.TheVariants.{Goes}
use Rattle.asm_lex.specs.Words.{Word}
use Rattle.asm_lex.specs.Scans.{Scan, scan}
use Rattle.asm_lex.specs.Source.{IsToken, Lexed}
use Rattle.asm_lex.proofs.Again.{again}
use Rattle.asm_lex.proofs.Found.{found}
use Rattle.asm_argument.specs.declared.terminal.Terminal.{Terminal}
use Rattle.asm_statement.specs.declared.state.StatementState.{StatementState}
use Rattle.asm_statement.specs.declared.state.StatementState.TheVariants as state
use Rattle.asm_statement.specs.ScopeView.{ScopeView}
use Rattle.asm_statement.specs.Scope.{fresh}
use Rattle.asm_statement.specs.Statement.{doom, fault_line}
use Rattle.asm_argument.specs.Terminals.{number_value, mark_terminal, number_terminal, terminal_of}
use Rattle.asm_statement.specs.Reading.{Fault, placed, next_word}
use Rattle.asm_statement.specs.Running.{Running, one_byte_over, moved, one_byte, run, start}
use Rattle.asm_parse.proofs.Words.{read_words}
use Rattle.asm_parse.proofs.Scopes.{GoodIn, fresh_good}
use Rattle.asm_parse.proofs.Quiet.{TerminalIs, NamedIs, StateIs, word_next}
use Rattle.asm_parse.proofs.Lines.{IsRead, bind_ok, placed_goes}
use Rattle.asm_lex.proofs.TextTokens.{IsClosed}
use Rattle.asm_parse.proofs.Linking.{link, unlink}
use Rattle.asm_parse.proofs.Alive.{run_two, has_reading}
use Rattle.asm_parse.proofs.Written.{IsName, words_at, written, written_lexed}
use Rattle.asm_parse.proofs.Completing.{completed}

-- ---- the names of words

terminal_either : (t : Bool) (a b : Terminal) → TerminalIs IsName a → TerminalIs IsName b → TerminalIs IsName (cond t a b)
terminal_either true a b p q = p
terminal_either false a b p q = q

mark_is : (m : ℕ) → TerminalIs IsName (mark_terminal m)
mark_is m =
    terminal_either (m == 36) _ _ tt
    (terminal_either (m == 37) _ _ tt (terminal_either (m == 40) _ _ tt (terminal_either (m == 41) _ _ tt (terminal_either (m == 42) _ _ tt
    (terminal_either (m == 43) _ _ tt
    (terminal_either (m == 44) _ _ tt (terminal_either (m == 45) _ _ tt (terminal_either (m == 58) _ _ tt tt))))))))

number_is : (n : ℕ) → TerminalIs IsName (number_terminal n)
number_is n = terminal_either (nat_lt n (2 ^ 32)) _ _ tt tt

pub token_is : (k : TokenKind) (piece rest : List ℕ) → IsToken k piece rest → TerminalIs IsName (terminal_of k piece)
token_is k piece rest (IsToken.end h) = tt
token_is k piece rest (IsToken.mark {b} h) = mark_is b
token_is k piece rest (IsToken.name {b} {bs} h g f) = (h, g)
token_is k piece rest (IsToken.number {b} {bs} h g f e) = number_is (number_value (b ∷ bs))
token_is k piece rest (IsToken.character {b} {c} h g) = number_is (number_value (b ∷ c ∷ []))
token_is k piece rest (IsToken.string h g) = tt

abbrev pub AreNamed : List Word → Type 0
AreNamed [] = Unit {0}
AreNamed (w ∷ ws) = TerminalIs IsName (terminal_of w.kind w.bytes) × AreNamed ws

lexed_named : {at line : ℕ} {text : List ℕ} {ws : List Word} → Lexed at line text ws → AreNamed ws
lexed_named Lexed.none = tt
lexed_named (Lexed.gap piece rest e gap l) = lexed_named l
lexed_named (Lexed.token k piece rest e is l) = (token_is k piece rest is, lexed_named l)

named_of : (st : StatementState) → StateIs IsName st → NamedIs IsName st
named_of (state.Named b n) h = h
named_of state.Start h = tt
named_of state.Skip h = tt
named_of (state.Sectioned b n m e) h = tt
named_of (state.Flags b n m) h = tt
named_of (state.Arguments o) h = tt
named_of (state.Stray l c) h = tt

pub record Fine (y : ScopeView × StatementState) : Type 0 where
  pub scope : GoodIn IsName y.0
  pub state : StateIs IsName y.1

pub words_fine : (ws : List Word) (sc : ScopeView) (st : StatementState) (y : ScopeView × StatementState) → AreNamed ws → GoodIn IsName sc
    → StateIs IsName st → read_words sc st ws ≡ Ok y → Fine y
words_fine [] sc st y are g is h = let e : (sc, st) ≡ y = cc in subst Fine e (record { scope = g; state = is })
words_fine (w ∷ ws) sc st y are g is h =
    let z = bind_ok (placed (fault_line sc st w.line) (next_word sc st w)) (λ z. read_words z.0 z.1 ws) y h in
    let n = word_next IsName sc st w z.0 g (named_of st is) are.0 (placed_goes (fault_line sc st w.line) (next_word sc st w) z.0 z.1) in
    words_fine ws z.0.0 z.0.1 y are.1 n.scope n.state z.2

-- ---- the bytes so far

seen_byte : (r s : Running) (b : ℕ) → one_byte r b ≡ Ok s → length r.seen ≡ r.at → length s.seen ≡ s.at
unfolding one_byte
seen_byte r s b h e =
    let x = bind_ok (one_byte_over r.scope r.state r.mode (r.seen ++ b ∷ []) r.at r.line b) (λ x. Ok (moved r b x)) s h in
    at_last x.0 x.2
  where
    at_last : (x : ScopeView × StatementState × Mode) → ◌≡◌ {A = Result Running Fault} (Ok (moved r b x)) (Ok s) → length s.seen ≡ s.at
    at_last x k = let g : moved r b x ≡ s =
        cc in subst (λ (y : Running). length y.seen ≡ y.at) g (length-append r.seen (b ∷ []) ∙ ap (λ (n : ℕ). n + 1) e)

seen_run : (bs : List ℕ) (r t : Running) → run r bs ≡ Ok t → length r.seen ≡ r.at → length t.seen ≡ t.at
seen_run [] r t h e = let g : r ≡ t = cc in subst (λ (y : Running). length y.seen ≡ y.at) g e
seen_run (b ∷ bs) r t h e =
    let s = bind_ok (one_byte r b) (λ s. run s bs) t h in
    seen_run bs s.0 t s.2 (seen_byte r s.0 b s.1 e)

-- ---- what ends an open comment

abbrev closing : Mode → List ℕ
closing (mode.Block l) = 42 ∷ 47 ∷ []
closing _ = []

record Closes (s : Running) : Type 0 where
  last : Running
  runs : run s (closing s.mode) ≡ Ok last
  between : last.mode ≡ mode.Between
  scope : last.scope ≡ s.scope
  state : last.state ≡ s.state

block_closes : (sc : ScopeView) (st : StatementState) (seen : List ℕ) (at line l : ℕ)
    → Closes (record { scope = sc; state = st; mode = mode.Block l; seen = seen; at = at; line = line })
unfolding one_byte one_byte_over class_of is_mark is_source
block_closes sc st seen at line l = record { last = _; runs = refl; between = refl; scope = refl; state = refl }

closes : (sc : ScopeView) (st : StatementState) (m : Mode) (seen : List ℕ) (at line : ℕ) → IsClosed (Goes m)
    → Closes (record { scope = sc; state = st; mode = m; seen = seen; at = at; line = line })
closes sc st mode.Between seen at line k = record { last = _; runs = refl; between = refl; scope = refl; state = refl }
closes sc st (mode.Block l) seen at line k = block_closes sc st seen at line l
closes sc st mode.Slash seen at line k = absurd k
closes sc st mode.Line seen at line k = absurd k
closes sc st (mode.Star l) seen at line k = absurd k
closes sc st (mode.Word a) seen at line k = absurd k
closes sc st (mode.Number a d) seen at line k = absurd k
closes sc st (mode.Quote a) seen at line k = absurd k
closes sc st (mode.Text a) seen at line k = absurd k
closes sc st (mode.Escape a) seen at line k = absurd k

-- after a comment, or none
between_goes_on : (p : List ℕ) (t : Running) → run start p ≡ Ok t → t.mode ≡ mode.Between → doom t.scope t.state ≡ None → (more : List ℕ)
    × IsRead (p ++ more)
between_goes_on p t h between alive =
    let l = link p start t h in
    let whole : scan mode.Between [] 0 1 p ≡ record { words = (scan mode.Between [] 0 1 p).words; ending = Goes mode.Between } =
    ap (λ (n : Next). record { words = (scan mode.Between [] 0 1 p).words; ending = n }) (l.ending ∙ ap Goes between) in
    let lexed = found p [] 0 1 (scan mode.Between [] 0 1 p).words refl whole in
    let fine = words_fine (scan mode.Between [] 0 1 p).words fresh state.Start (t.scope, t.state) (lexed_named lexed)
    (fresh_good IsName) tt l.words in
    let d = completed t.scope t.state fine.scope fine.state alive in
    let s : scan t.mode t.seen t.at t.line (written d.pieces)
    ≡ record { words = words_at t.at t.line d.pieces; ending = Goes mode.Between } =
    ap (λ (m : Mode). scan m t.seen t.at t.line (written d.pieces)) between ∙ again (written_lexed d.pieces d.are t.at t.line) t.seen
    (seen_run p start t h refl) in
    let u = unlink (written d.pieces) t mode.Between (d.last, state.Start) (ap (λ (x : Scan). x.ending) s)
    (ap (λ (x : Scan). read_words t.scope t.state x.words) s ∙ d.runs t.at t.line) in (
      written d.pieces,
      has_reading (p ++ written d.pieces) u.last (run_two start t p (written d.pieces) h ∙ u.runs) u.same_mode
          (ap (λ (x : ScopeView × StatementState). x.1) u.same),
    )

-- Where nothing is dead some text goes on.
pub closed_goes_on : (p : List ℕ) (s : Running) → run start p ≡ Ok s → IsClosed (Goes s.mode) → doom s.scope s.state ≡ None
    → (more : List ℕ) × IsRead (p ++ more)
closed_goes_on p s h k alive =
    let c = closes s.scope s.state s.mode s.seen s.at s.line k in
    let runs : run start (p ++ closing s.mode) ≡ Ok c.last = run_two start s p (closing s.mode) h ∙ c.runs in
    let g = between_goes_on (p ++ closing s.mode) c.last runs c.between (rw (c.scope, c.state) alive) in
    (closing s.mode ++ g.0, subst IsRead (append_assoc p (closing s.mode) g.0) g.1)
