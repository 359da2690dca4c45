-- The line of a fault is the first after which no text goes on.
use Rattle.std.proofs.Common.{◌≡◌, ℕ, zero, suc, ◌+◌, ◌≤◌, ◌<◌, Bool, true, false, List, [], ◌∷◌, ◌++◌, Option, Some, None, Result, Ok, Err, refl, sym, ap, ◌∙◌, arith, inl, inr}
use Rattle.std.specs.Prelude.{◌==◌, unwrap_or}
use Rattle.asm_lex.specs.declared.fault.SourceCause.{SourceCause}
use Rattle.asm_lex.specs.declared.fault.SourceCause.TheVariants.{OpenComment}
use Rattle.asm_lex.specs.declared.machine.Mode.TheVariants as mode
use Rattle.asm_lex.specs.declared.machine.Mode.{Mode}
use Rattle.asm_lex.specs.Words.{Word, line_after}
use Rattle.asm_lex.specs.Scans.{scan}
use Rattle.asm_statement.specs.declared.state.StatementState.{StatementState}
use Rattle.asm_statement.specs.declared.state.StatementState.TheVariants as state
use Rattle.asm_statement.specs.ScopeView.{ScopeView}
use Rattle.asm_statement.specs.Statement.{doom, pending, fault_line, left_open, open_at_end}
use Rattle.asm_statement.specs.Reading.{Fault, placed, next_word}
use Rattle.asm_lex.specs.Lines.{first_lines}
use Rattle.asm_statement.specs.Running.{Running, ◌>>=◌, one_byte, run, start, closed, read}
use Rattle.asm_parse.proofs.Scopes.{GoodIn, fresh_good}
use Rattle.asm_parse.proofs.Quiet.{Any, any_next}
use Rattle.asm_parse.proofs.Lines.{OneByte, placed_goes, bind_ok, err_line, ok_byte, run_ok, IsRead}
use Rattle.asm_parse.proofs.Words.{read_words}
use Rattle.asm_lex.specs.declared.machine.Next.TheVariants.{Goes}
use Rattle.asm_lex.proofs.TextTokens.{IsClosed}
use Rattle.asm_parse.proofs.Linking.{run_append, link, last_mode, closed_between}
use Rattle.asm_parse.proofs.Alive.{newline_state, lines_end}
use Rattle.asm_parse.proofs.Names.{none_some}
use Rattle.asm_lex.proofs.FaultLines.{line_newline}
use Rattle.asm_lex.proofs.Again.{line_stays}

-- a whole reading from here on
abbrev pub finish : Running → List ℕ → Result Running Fault
finish r text = run r text >>= λ s. closed s s.mode

-- ---- what is dead stays dead

pub words_doomed : (ws : List Word) (sc : ScopeView) (st : StatementState) (l : ℕ) (y : ScopeView × StatementState) → GoodIn Any sc
    → doom sc st ≡ Some l → read_words sc st ws ≡ Ok y → y.1 ≡ state.Start → ⊥
words_doomed [] sc st l y good d h e =
    let g : (sc, st) ≡ y = cc in
    let start : st ≡ state.Start = ap (λ (x : ScopeView × StatementState). x.1) g ∙ e in
    let none : None ≡ Some l = sym (ap (doom sc) start) ∙ d in
    absurd cc
words_doomed (w ∷ ws) sc st l y good d h e =
    let z = bind_ok (placed (fault_line sc st w.line) (next_word sc st w)) (λ z. read_words z.0 z.1 ws) y h in
    let n = any_next sc st w z.0 good (placed_goes (fault_line sc st w.line) (next_word sc st w) z.0 z.1) in
    words_doomed ws z.0.0 z.0.1 l y n.scope (elim n.doom [ inl k ↦ k ∙ d | inr (k, m) ↦ absurd (none_doomed k d) ]) z.2 e
  where
    none_doomed : {o : Option ℕ} {l : ℕ} → o ≡ None → o ≡ Some l → ⊥
    none_doomed k d = absurd cc

doomed_never : (r : Running) (l : ℕ) → GoodIn Any r.scope → doom r.scope r.state ≡ Some l → (more : List ℕ) (t : Running)
    → finish r (more ++ 10 ∷ []) ≡ Ok t → ⊥
doomed_never r l good d more t h =
    let s = bind_ok (run r (more ++ 10 ∷ [])) (λ s. closed s s.mode) t h in
    let a = run_append r s.0 more (10 ∷ []) s.1 in
    let m = closed_between s.0 t s.0.mode (last_mode a.0 s.0 a.2) s.2 in
    let k = link (more ++ 10 ∷ []) r s.0 s.1 in
    words_doomed (scan r.mode r.seen r.at r.line (more ++ 10 ∷ [])).words r.scope r.state l (s.0.scope, s.0.state) good d k.words
    (newline_state a.0 s.0 a.2 m.0)

-- ---- the line of a fault

some_line : (o : Option ℕ) (l line : ℕ) → o ≡ Some l → unwrap_or o line ≡ l
some_line o l line e = rw e refl

none_line : (o : Option ℕ) (line : ℕ) → o ≡ None → unwrap_or o line ≡ line
none_line o line e = rw e refl

err_same : {f g : Fault} → ◌≡◌ {A = Result Running Fault} (Err f) (Err g) → f ≡ g
err_same e = cc

closed_doomed : (r : Running) (m : Mode) (l : ℕ) (f : Fault) → doom r.scope r.state ≡ Some l → closed r m ≡ Err f → f.0 ≡ l
closed_doomed r (mode.Block b) l f d h =
    let e : left_open r.scope r.state b ≡ f = cc in
    sym (ap (λ (x : Fault). x.0) e) ∙ ap (λ (o : Option ℕ). (open_at_end o (pending r.scope r.state) b).0) d
closed_doomed r _ l f d h = absurd cc

closed_quiet : (r : Running) (m : Mode) (f : Fault) → doom r.scope r.state ≡ None → closed r m ≡ Err f → f.1 ≡ OpenComment
closed_quiet r (mode.Block b) f d h =
    let e : left_open r.scope r.state b ≡ f = cc in
    sym (ap (λ (x : Fault). x.1) e) ∙ ap (λ (o : Option ℕ). (open_at_end o (pending r.scope r.state) b).1) d
closed_quiet r _ f d h = absurd cc

-- what one byte of a text that fails does
data FailsBehind (r : Running) (b : ℕ) (cs : List ℕ) (f : Fault) : Type 0 where
  fails : one_byte r b ≡ Err f → FailsBehind r b cs f
  goes : (s : Running) → one_byte r b ≡ Ok s → OneByte r b s → finish s cs ≡ Err f → FailsBehind r b cs f

fails_behind : (r : Running) (b : ℕ) (cs : List ℕ) (f : Fault) → finish r (b ∷ cs) ≡ Err f → FailsBehind r b cs f
fails_behind r b cs f h = by_byte (one_byte r b) refl h
  where
    by_byte : (q : Result Running Fault) → one_byte r b ≡ q
        → ◌≡◌ {A = Result Running Fault} ((q >>= λ s. run s cs) >>= λ s. closed s s.mode) (Err f) → FailsBehind r b cs f
    by_byte (Ok s) e h = FailsBehind.goes s e (ok_byte r b s e) h
    by_byte (Err g) e h = FailsBehind.fails (e ∙ h)

doomed_fault : (cs : List ℕ) (r : Running) (l : ℕ) (f : Fault) → GoodIn Any r.scope → doom r.scope r.state ≡ Some l
    → finish r cs ≡ Err f → f.0 ≡ l
doomed_fault [] r l f good d h = closed_doomed r r.mode l f d h
doomed_fault (b ∷ cs) r l f good d h = elim (fails_behind r b cs f h) [
  | FailsBehind.fails e ↦ err_line r b f good e ∙ some_line (doom r.scope r.state) l r.line d
  | FailsBehind.goes s e o k ↦
      let p = o.keeps good in
      elim p.0 [
        | inl same ↦ doomed_fault cs s l f p.1 (same ∙ d) k
        | inr (n, x) ↦ absurd (none_some (doom r.scope r.state) n d)
      ]
]

-- what one byte does where nothing is dead yet: the text is dead in this line, or it goes on
data Behind (r : Running) (b : ℕ) (cs : List ℕ) (f : Fault) : Type 0 where
  here : f.0 ≡ r.line → ((more : List ℕ) (t : Running) → finish r (b ∷ (more ++ 10 ∷ [])) ≡ Ok t → ⊥) → Behind r b cs f
  later : (s : Running) → one_byte r b ≡ Ok s → s.line ≡ line_after r.line b → GoodIn Any s.scope → doom s.scope s.state ≡ None
      → finish s cs ≡ Err f → Behind r b cs f

err_not_ok : {f : Fault} {t : Running} (q : Result Running Fault) → q ≡ Err f → q ≡ Ok t → ⊥
err_not_ok q e h = absurd cc

finish_err : (r : Running) (b : ℕ) (f : Fault) (cs : List ℕ) → one_byte r b ≡ Err f → finish r (b ∷ cs) ≡ Err f
finish_err r b f cs e = rw e refl

finish_ok : (r s : Running) (b : ℕ) (cs : List ℕ) → one_byte r b ≡ Ok s → finish r (b ∷ cs) ≡ finish s cs
finish_ok r s b cs e = rw e refl

behind : (r : Running) (b : ℕ) (cs : List ℕ) (f : Fault) → GoodIn Any r.scope → doom r.scope r.state ≡ None
    → finish r (b ∷ cs) ≡ Err f → Behind r b cs f
behind r b cs f good d h = elim (fails_behind r b cs f h) [
  | FailsBehind.fails e ↦ Behind.here (err_line r b f good e ∙ none_line (doom r.scope r.state) r.line d)
      (λ more t g. err_not_ok (finish r (b ∷ (more ++ 10 ∷ []))) (finish_err r b f (more ++ 10 ∷ []) e) g)
  | FailsBehind.goes s e o k ↦
      let p = o.keeps good in
      elim p.0 [
        | inl same ↦ Behind.later s e o.line p.1 (same ∙ d) k
        | inr (n, x) ↦ Behind.here (doomed_fault cs s r.line f p.1 x k)
            (λ more t g. doomed_never s r.line p.1 x more t (sym (finish_ok r s b (more ++ 10 ∷ []) e) ∙ g))
      ]
]

-- The lines up to the fault's have no reading, whatever follows them.
record Dies (r : Running) (text : List ℕ) (f : Fault) : Type 0 where
  not_before : r.line ≤ f.0
  dead : (n : ℕ) → n + r.line ≡ f.0 → (more : List ℕ) (t : Running) → finish r ((first_lines (suc n) text ++ more) ++ 10 ∷ []) ≡ Ok t → ⊥

dies : (text : List ℕ) (r : Running) (f : Fault) → (f.1 ≡ OpenComment → ⊥) → GoodIn Any r.scope → doom r.scope r.state ≡ None
    → finish r (text ++ 10 ∷ []) ≡ Err f → Dies r text f
dies [] r f other good d h = elim (behind r 10 [] f good d h) [
  | Behind.here e never ↦ record { not_before = omega (arith, e); dead = λ n k more t g. never more t g }
  | Behind.later s e line good2 quiet k ↦ absurd (other (closed_quiet s s.mode f quiet k))
]
dies (b ∷ bs) r f other good d h = elim (behind r b (bs ++ 10 ∷ []) f good d h) [
  | Behind.here e never ↦ record { not_before = omega (arith, e); dead = λ n k more t g. never _ t g }
  | Behind.later s e line good2 quiet k ↦ goes_deeper s e line (dies bs s f other good2 quiet k) (b == 10) refl
]
  where
    goes_deeper : (s : Running) → one_byte r b ≡ Ok s → s.line ≡ line_after r.line b → Dies s bs f → (t : Bool)
        → (b == 10) ≡ t → Dies r (b ∷ bs) f
    goes_deeper s e line w true t = record { not_before = omega (arith, w.not_before, line ∙ line_newline r.line b t); dead = at_count }
      where
        at_count : (n : ℕ) → n + r.line ≡ f.0 → (more : List ℕ) (z : Running)
            → finish r ((first_lines (suc n) (b ∷ bs) ++ more) ++ 10 ∷ []) ≡ Ok z → ⊥
        at_count zero k more z g = absurd (omega (arith, w.not_before, line ∙ line_newline r.line b t))
        at_count (suc n) k more z g =
            let rest : first_lines (suc (suc n)) (b ∷ bs) ≡ b ∷ first_lines (suc n) bs = rw t refl in
            w.dead n (omega (arith, line ∙ line_newline r.line b t)) more z
            (sym (finish_ok r s b ((first_lines (suc n) bs ++ more) ++ 10 ∷ []) e)
            ∙ (sym (ap (λ (x : List ℕ). finish r ((x ++ more) ++ 10 ∷ [])) rest) ∙ g))
    goes_deeper s e line w false t = record { not_before = omega (arith, w.not_before, line ∙ line_stays r.line b t); dead = at_count }
      where
        at_count : (n : ℕ) → n + r.line ≡ f.0 → (more : List ℕ) (z : Running)
            → finish r ((first_lines (suc n) (b ∷ bs) ++ more) ++ 10 ∷ []) ≡ Ok z → ⊥
        at_count n k more z g =
            let rest : first_lines (suc n) (b ∷ bs) ≡ b ∷ first_lines (suc n) bs = rw t refl in
            w.dead n (omega (arith, line ∙ line_stays r.line b t)) more z
            (sym (finish_ok r s b ((first_lines (suc n) bs ++ more) ++ 10 ∷ []) e)
            ∙ (sym (ap (λ (x : List ℕ). finish r ((x ++ more) ++ 10 ∷ [])) rest) ∙ g))

-- The lines before the fault's go on, and nothing in them is dead.
abbrev Lives : Running → List ℕ → ℕ → Type 0
Lives r text n = (s : Running) × (run r (first_lines n text) ≡ Ok s) × (doom s.scope s.state ≡ None)

lives : (text : List ℕ) (r : Running) (f : Fault) → (f.1 ≡ OpenComment → ⊥) → GoodIn Any r.scope → doom r.scope r.state ≡ None
    → finish r (text ++ 10 ∷ []) ≡ Err f → (n : ℕ) → n + r.line ≤ f.0 → Lives r text n
lives [] r f other good d h zero le = (r, refl, d)
lives [] r f other good d h (suc n) le = elim (behind r 10 [] f good d h) [
  | Behind.here e never ↦ absurd (omega (arith, e))
  | Behind.later s e line good2 quiet k ↦ absurd (other (closed_quiet s s.mode f quiet k))
]
lives (b ∷ bs) r f other good d h zero le = (r, refl, d)
lives (b ∷ bs) r f other good d h (suc n) le = elim (behind r b (bs ++ 10 ∷ []) f good d h) [
  | Behind.here e never ↦ absurd (omega (arith, e))
  | Behind.later s e line good2 quiet k ↦ at_byte s e line (λ m. lives bs s f other good2 quiet k m) (b == 10) refl
]
  where
    at_byte : (s : Running) → one_byte r b ≡ Ok s → s.line ≡ line_after r.line b → ((m : ℕ) → m + s.line ≤ f.0 → Lives s bs m) → (u : Bool)
        → (b == 10) ≡ u → Lives r (b ∷ bs) (suc n)
    at_byte s e line ih true u =
        let g = ih n (omega (arith, line ∙ line_newline r.line b u)) in
        (g.0, rw u (run_ok r s b _ e ∙ g.1), g.2)
    at_byte s e line ih false u =
        let g = ih (suc n) (omega (arith, line ∙ line_stays r.line b u)) in
        (g.0, rw u (run_ok r s b _ e ∙ g.1), g.2)

-- After the line of a fault no text goes on, but for an open comment.
pub dead_line : (text : List ℕ) (line : ℕ) (c : SourceCause) → read text ≡ Err (line, c) → (c ≡ OpenComment → ⊥) → (more : List ℕ)
    → IsRead (first_lines line text ++ more) → ⊥
unfolding read
dead_line text line c h other more (t, g) = at_line line (dies text start (line, c) other (fresh_good Any) refl h) g
  where
    at_line : (l : ℕ) → Dies start text (l, c) → finish start ((first_lines l text ++ more) ++ 10 ∷ []) ≡ Ok t → ⊥
    at_line zero w g = absurd (omega (arith, w.not_before))
    at_line (suc n) w g = w.dead n (omega arith) more t g

-- Each line before the fault's goes on, and nothing is open after it but a comment and a statement.
pub alive_line : (text : List ℕ) (f : Fault) → read text ≡ Err f → (f.1 ≡ OpenComment → ⊥) → (n : ℕ) → n < f.0
    → (s : Running) × (run start (first_lines n text) ≡ Ok s) × (doom s.scope s.state ≡ None) × IsClosed (Goes s.mode)
unfolding read
alive_line text f h other zero lt = (start, refl, refl, tt)
alive_line text f h other (suc n) lt =
    let g = lives text start f other (fresh_good Any) refl h (suc n) (omega arith) in
    let e = lines_end text n in
    let split = run_append start g.0 e.0 (10 ∷ []) (ap (run start) (sym e.1) ∙ g.1) in
    (g.0, g.1, g.2, last_mode split.0 g.0 split.2)
