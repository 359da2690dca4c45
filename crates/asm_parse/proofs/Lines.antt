-- A fault of one byte is in its line, or in that of a token with which no text goes on.
use Rattle.std.proofs.Common.{◌≡◌, ℕ, List, [], ◌∷◌, ◌++◌, Option, Some, None, Result, Ok, Err, refl, sym, ap, subst, ◌∙◌, ◌⊎◌, inl, inr}
use Rattle.std.specs.Prelude.{unwrap_or}
use Rattle.asm_lex.specs.declared.machine.Mode.{Mode}
use Rattle.asm_lex.specs.declared.machine.Next.{Next}
use Rattle.asm_lex.specs.declared.machine.Next.TheVariants.{Goes, Stops}
use Rattle.asm_lex.specs.declared.machine.Stepped.{Stepped}
use Rattle.asm_lex.specs.declared.token.Token.{Token}
use Rattle.asm_lex.specs.Machine.{stepped}
use Rattle.asm_lex.specs.Words.{Word, line_after}
use Rattle.asm_lex.specs.Scans.{word_of}
use Rattle.asm_statement.specs.declared.state.StatementState.{StatementState}
use Rattle.asm_statement.specs.ScopeView.{ScopeView}
use Rattle.asm_statement.specs.Statement.{doom, fault_line, stopped}
use Rattle.asm_statement.specs.Reading.{Fault, fed, placed, next_word}
use Rattle.asm_statement.specs.Running.{Running, ◌>>=◌, goes_on, byte_does, second_does, one_byte_over, moved, one_byte, run, read}
use Rattle.asm_parse.proofs.Scopes.{GoodIn}
use Rattle.asm_parse.proofs.Quiet.{Answer, Any, any_next}
use Rattle.asm_parse.proofs.Names.{none_some}

pub bind_err : {A B : Type 0} (r : Result A Fault) (k : A → Result B Fault) (f : Fault) → (r >>= k) ≡ Err f → (r ≡ Err f)
    ⊎ ((x : A) × (r ≡ Ok x) × (k x ≡ Err f))
bind_err (Ok x) k f h = inr (x, refl, h)
bind_err (Err e) k f h = let g : e ≡ f = cc in inl (rw g refl)

pub bind_ok : {A B : Type 0} (r : Result A Fault) (k : A → Result B Fault) (y : B) → (r >>= k) ≡ Ok y → (x : A) × (r ≡ Ok x) × (k x ≡ Ok y)
bind_ok (Ok x) k y h = (x, refl, h)
bind_ok (Err e) k y h = absurd cc

-- ---- what is dead stays so, and becomes so in its line

abbrev Doom : ScopeView → StatementState → ℕ → ScopeView → StatementState → Type 0
Doom sc st line sc2 st2 = (doom sc2 st2 ≡ doom sc st) ⊎ ((doom sc st ≡ None) × (doom sc2 st2 ≡ Some line))

-- from a scope such as every one is
abbrev pub Keeps : ScopeView → StatementState → ℕ → ScopeView → StatementState → Type 0
Keeps sc st line sc2 st2 = GoodIn Any sc → Doom sc st line sc2 st2 × GoodIn Any sc2

doom_on : (sc sc2 sc3 : ScopeView) (st st2 st3 : StatementState) (line : ℕ) → Doom sc st line sc2 st2 → Doom sc2 st2 line sc3 st3
    → Doom sc st line sc3 st3
doom_on sc sc2 sc3 st st2 st3 line (inl e) (inl f) = inl (f ∙ e)
doom_on sc sc2 sc3 st st2 st3 line (inl e) (inr (n, s)) = inr (sym e ∙ n, s)
doom_on sc sc2 sc3 st st2 st3 line (inr (n, s)) (inl f) = inr (n, f ∙ s)
doom_on sc sc2 sc3 st st2 st3 line (inr (n, s)) (inr (n2, s2)) = absurd (none_some (doom sc2 st2) n2 s)

keeps_on : (sc sc2 sc3 : ScopeView) (st st2 st3 : StatementState) (line : ℕ) → Keeps sc st line sc2 st2 → Keeps sc2 st2 line sc3 st3
    → Keeps sc st line sc3 st3
keeps_on sc sc2 sc3 st st2 st3 line p q g = let a = p g in let b = q a.1 in (doom_on sc sc2 sc3 st st2 st3 line a.0 b.0, b.1)

doom_line : (sc sc2 : ScopeView) (st st2 : StatementState) (line : ℕ) → Doom sc st line sc2 st2
    → fault_line sc2 st2 line ≡ fault_line sc st line
doom_line sc sc2 st st2 line (inl e) = ap (λ (d : Option ℕ). unwrap_or d line) e
doom_line sc sc2 st st2 line (inr (n, s)) = ap (λ (d : Option ℕ). unwrap_or d line) s ∙ sym (ap (λ (d : Option ℕ). unwrap_or d line) n)

placed_line : (line : ℕ) (r : Answer) (f : Fault) → placed line r ≡ Err f → f.0 ≡ line
placed_line line (Ok x) f h = absurd cc
placed_line line (Err c) f h = let e : (line, c) ≡ f = cc in sym (ap (λ (x : Fault). x.0) e)

pub placed_goes : (line : ℕ) (r : Answer) (x : ScopeView × StatementState) → placed line r ≡ Ok x → r ≡ Ok x
placed_goes line (Ok y) x h = let e : y ≡ x = cc in ap (λ (z : ScopeView × StatementState). Ok z) e
placed_goes line (Err c) x h = absurd cc

fed_line : (sc : ScopeView) (st : StatementState) (seen : List ℕ) (line : ℕ) (t : Option Token) (f : Fault) → fed sc st seen line t ≡ Err f
    → f.0 ≡ fault_line sc st line
fed_line sc st seen line None f h = absurd cc
fed_line sc st seen line (Some t) f h = placed_line (fault_line sc st line) _ f h

word_keeps : (sc : ScopeView) (st : StatementState) (w : Word) (x : ScopeView × StatementState) → next_word sc st w ≡ Ok x
    → Keeps sc st w.line x.0 x.1
word_keeps sc st w x h g = let n = any_next sc st w x g h in (n.doom, n.scope)

same_keeps : (sc sc2 : ScopeView) (st st2 : StatementState) (line : ℕ) → ◌≡◌ {A = ScopeView × StatementState} (sc, st) (sc2, st2)
    → Keeps sc st line sc2 st2
same_keeps sc sc2 st st2 line e g =
    (inl (sym (ap (λ (z : ScopeView × StatementState). doom z.0 z.1) e)), subst (λ (z : ScopeView × StatementState). GoodIn Any z.0) e g)

fed_keeps : (sc : ScopeView) (st : StatementState) (seen : List ℕ) (line : ℕ) (t : Option Token) (x : ScopeView × StatementState)
    → fed sc st seen line t ≡ Ok x → Keeps sc st line x.0 x.1
fed_keeps sc st seen line None x h = let e : (sc, st) ≡ x = cc in same_keeps sc x.0 st x.1 line e
fed_keeps sc st seen line (Some t) x h = word_keeps sc st (word_of seen line t) x (placed_goes (fault_line sc st line) _ x h)

goes_line : (line : ℕ) (y : ScopeView × StatementState) (n : Next) (f : Fault) → goes_on line y n ≡ Err f → f.0 ≡ fault_line y.0 y.1 line
goes_line line y (Goes m) f h = absurd cc
goes_line line y (Stops l c) f h = let e : stopped y.0 y.1 line c ≡ f = cc in sym (ap (λ (x : Fault). x.0) e)

goes_keeps : (line : ℕ) (y : ScopeView × StatementState) (n : Next) (x : ScopeView × StatementState × Mode) → goes_on line y n ≡ Ok x
    → Keeps y.0 y.1 line x.0 x.1
goes_keeps line y (Goes m) x h = let e : (y.0, y.1, m) ≡ x =
    cc in same_keeps y.0 x.0 y.1 x.1 line (ap (λ (z : ScopeView × StatementState × Mode). (z.0, z.1)) e)
goes_keeps line y (Stops l c) x h = absurd cc

does_line : (sc : ScopeView) (st : StatementState) (seen : List ℕ) (line : ℕ) (s : Stepped) (f : Fault) → GoodIn Any sc
    → byte_does sc st seen line s ≡ Err f → f.0 ≡ fault_line sc st line
does_line sc st seen line s f good h =
    elim (bind_err (fed sc st seen line s.first) (λ x. second_does x.0 x.1 seen line s.second s.next) f h) [
      | inl e ↦ fed_line sc st seen line s.first f e
      | inr (x, e, k) ↦
          let one = fed_keeps sc st seen line s.first x e good in
          let same = doom_line sc x.0 st x.1 line one.0 in
          elim (bind_err (fed x.0 x.1 seen line s.second) (λ y. goes_on line y s.next) f k) [
            | inl g ↦ fed_line x.0 x.1 seen line s.second f g ∙ same
            | inr (y, g, l) ↦ goes_line line y s.next f l
                ∙ (doom_line x.0 y.0 x.1 y.1 line (fed_keeps x.0 x.1 seen line s.second y g one.1).0 ∙ same)
          ]
    ]

does_keeps : (sc : ScopeView) (st : StatementState) (seen : List ℕ) (line : ℕ) (s : Stepped) (x : ScopeView × StatementState × Mode)
    → byte_does sc st seen line s ≡ Ok x → Keeps sc st line x.0 x.1
does_keeps sc st seen line s x h =
    let y = bind_ok (fed sc st seen line s.first) (λ y. second_does y.0 y.1 seen line s.second s.next) x h in
    let z = bind_ok (fed y.0.0 y.0.1 seen line s.second) (λ z. goes_on line z s.next) x y.2 in
    keeps_on sc y.0.0 x.0 st y.0.1 x.1 line (fed_keeps sc st seen line s.first y.0 y.1)
    (keeps_on y.0.0 z.0.0 x.0 y.0.1 z.0.1 x.1 line (fed_keeps y.0.0 y.0.1 seen line s.second z.0 z.1) (goes_keeps line z.0 s.next x z.2))

over_line : (sc : ScopeView) (st : StatementState) (m : Mode) (seen : List ℕ) (at line b : ℕ) (f : Fault) → GoodIn Any sc
    → one_byte_over sc st m seen at line b ≡ Err f → f.0 ≡ fault_line sc st line
unfolding one_byte_over
over_line sc st m seen at line b f good h = does_line sc st seen line (stepped m at line b) f good h

over_keeps : (sc : ScopeView) (st : StatementState) (m : Mode) (seen : List ℕ) (at line b : ℕ) (x : ScopeView × StatementState × Mode)
    → one_byte_over sc st m seen at line b ≡ Ok x → Keeps sc st line x.0 x.1
unfolding one_byte_over
over_keeps sc st m seen at line b x h = does_keeps sc st seen line (stepped m at line b) x h

pub err_line : (r : Running) (b : ℕ) (f : Fault) → GoodIn Any r.scope → one_byte r b ≡ Err f → f.0 ≡ fault_line r.scope r.state r.line
unfolding one_byte
err_line r b f good h =
    elim (bind_err (one_byte_over r.scope r.state r.mode (r.seen ++ b ∷ []) r.at r.line b) (λ x. Ok (moved r b x)) f h) [
      | inl e ↦ over_line r.scope r.state r.mode (r.seen ++ b ∷ []) r.at r.line b f good e
      | inr (x, e, k) ↦ absurd cc
    ]

pub record OneByte (r : Running) (b : ℕ) (t : Running) : Type 0 where
  pub line : t.line ≡ line_after r.line b
  pub keeps : Keeps r.scope r.state r.line t.scope t.state

pub ok_byte : (r : Running) (b : ℕ) (t : Running) → one_byte r b ≡ Ok t → OneByte r b t
unfolding one_byte
ok_byte r b t h =
    let x = bind_ok (one_byte_over r.scope r.state r.mode (r.seen ++ b ∷ []) r.at r.line b) (λ x. Ok (moved r b x)) t h in
    same x.0 (over_keeps r.scope r.state r.mode (r.seen ++ b ∷ []) r.at r.line b x.0 x.1) x.2
  where
    same : (x : ScopeView × StatementState × Mode) → Keeps r.scope r.state r.line x.0 x.1
        → ◌≡◌ {A = Result Running Fault} (Ok (moved r b x)) (Ok t) → OneByte r b t
    same x k e =
        let g : moved r b x ≡ t = cc in
        record {
          line = sym (ap (λ (y : Running). y.line) g);
          keeps = subst (λ (y : Running). Keeps r.scope r.state r.line y.scope y.state) g k;
        }

pub run_ok : (r s : Running) (b : ℕ) (bs : List ℕ) → one_byte r b ≡ Ok s → run r (b ∷ bs) ≡ run s bs
run_ok r s b bs e = rw e refl

abbrev pub IsRead : List ℕ → Type 0
IsRead text = (r : Running) × (read text ≡ Ok r)
