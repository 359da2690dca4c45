-- The line of a fault is the first after which no text has tokens.
use Rattle.std.proofs.Common.{◌≡◌, ℕ, zero, suc, ◌+◌, ◌≤◌, ◌<◌, Bool, true, false, cond, List, [], ◌∷◌, ◌++◌, Result, Ok, Err, refl, sym, ap, subst, ◌∙◌, append_assoc, inl, inr, arith}
use Rattle.std.specs.Prelude.{◌==◌, ◌&&◌, ◌-◌, not}
use Rattle.std.proofs.lemmas.Bool.{eqb-true}
use Rattle.std.specs.Global.{Vec}
use Rattle.asm_lex.specs.Bytes.{class_of, is_source, is_word, is_escape}
use Rattle.asm_lex.specs.declared.bytes.Class.{Class}
use Rattle.asm_lex.specs.declared.bytes.Class.TheVariants as class
use Rattle.asm_lex.specs.declared.fault.SourceCause.{SourceCause}
use Rattle.asm_lex.specs.declared.fault.SourceCause.TheVariants as cause
use Rattle.asm_lex.specs.declared.fault.SourceFault.{SourceFault}
use Rattle.asm_lex.specs.declared.fault.SourceFault.TheVariants as fault
use Rattle.asm_lex.specs.declared.token.Token.{Token}
use Rattle.asm_lex.specs.declared.token.TokenKind.TheVariants as kind
use Rattle.asm_lex.specs.declared.machine.Mode.{Mode}
use Rattle.asm_lex.specs.declared.machine.Mode.TheVariants as mode
use Rattle.asm_lex.specs.declared.machine.Next.{Next}
use Rattle.asm_lex.specs.declared.machine.Next.TheVariants.{Goes, Stops}
use Rattle.asm_lex.specs.declared.machine.Stepped.{Stepped}
use Rattle.asm_lex.specs.Machine.{stepped, begins, begun, after, goes, stops, emits, next_digit, is_whole}
use Rattle.asm_lex.specs.Words.{line_after}
use Rattle.asm_lex.specs.Scans.{Scan, scan}
use Rattle.asm_lex.specs.Tokens.{Tokens, token_scan, LexesTo}
use Rattle.asm_lex.specs.Lines.{first_lines, HasTokens, RefusedAt}
use Rattle.asm_lex.proofs.TextTokens.{IsClosed, at_newline, same}
use Rattle.asm_lex.proofs.Found.{found}
use Rattle.asm_lex.proofs.Again.{again, line_stays}

-- ---- a fault is in its line

abbrev pub StopsIn : ℕ → Next → Type 0
StopsIn line (Goes m) = Unit {0}
StopsIn line (Stops l c) = l ≡ line

either : (line : ℕ) (t : Bool) (a b : Stepped) → StopsIn line a.next → StopsIn line b.next → StopsIn line (cond t a b).next
either line true a b p q = p
either line false a b p q = q

begins_in : (k : Class) (at line b : ℕ) → StopsIn line (begins k at line b).next
begins_in class.Other at line b = refl
begins_in class.Foreign at line b = refl
begins_in _ at line b = tt

begun_in : (at line b : ℕ) → StopsIn line (begun at line b).next
begun_in at line b = begins_in (class_of b) at line b

pub step_in : (m : Mode) (at line b : ℕ) → StopsIn line (stepped m at line b).next
step_in mode.Between at line b = begun_in at line b
step_in mode.Slash at line b = either line (b == 42) (goes (mode.Block line)) (stops line cause.BadCharacter) tt refl
step_in mode.Line at line b = either line (b == 10) (emits kind.End at 1) (cond (is_source b) (goes mode.Line) (stops line cause.NotAscii))
    tt (either line (is_source b) (goes mode.Line) (stops line cause.NotAscii) tt refl)
step_in (mode.Block l) at line b = either line (b == 42) (goes (mode.Star l))
    (cond (is_source b) (goes (mode.Block l)) (stops line cause.NotAscii)) tt
    (either line (is_source b) (goes (mode.Block l)) (stops line cause.NotAscii) tt refl)
step_in (mode.Star l) at line b =
    either line (b == 47) (goes mode.Between)
    (cond (b == 42) (goes (mode.Star l)) (cond (is_source b) (goes (mode.Block l)) (stops line cause.NotAscii))) tt
    (either line (b == 42) (goes (mode.Star l)) (cond (is_source b) (goes (mode.Block l)) (stops line cause.NotAscii)) tt
    (either line (is_source b) (goes (mode.Block l)) (stops line cause.NotAscii) tt refl))
step_in (mode.Word s) at line b = either line (is_word b) (goes (mode.Word s)) (after kind.Name s at line b) tt (begun_in at line b)
step_in (mode.Number s d) at line b =
    either line (is_word b) (goes (mode.Number s (next_digit d b)))
    (cond (is_whole d) (after kind.Number s at line b) (stops line cause.BadNumber)) tt
    (either line (is_whole d) (after kind.Number s at line b) (stops line cause.BadNumber) (begun_in at line b) refl)
step_in (mode.Quote s) at line b =
    either line (is_source b && not (b == 10)) (emits kind.Number s (at + 1 - s)) (stops line cause.BadNumber) tt refl
step_in (mode.Text s) at line b =
    either line (b == 34) (emits kind.Text s (at + 1 - s))
    (cond (b == 10) (stops line cause.OpenString)
    (cond (b == 92) (goes (mode.Escape s)) (cond (is_source b) (goes (mode.Text s)) (stops line cause.NotAscii)))) tt
    (either line (b == 10) (stops line cause.OpenString)
    (cond (b == 92) (goes (mode.Escape s)) (cond (is_source b) (goes (mode.Text s)) (stops line cause.NotAscii))) refl
    (either line (b == 92) (goes (mode.Escape s)) (cond (is_source b) (goes (mode.Text s)) (stops line cause.NotAscii)) tt
    (either line (is_source b) (goes (mode.Text s)) (stops line cause.NotAscii) tt refl)))
step_in (mode.Escape s) at line b =
    either line (b == 10) (stops line cause.OpenString) (cond (is_escape b) (goes (mode.Text s)) (stops line cause.BadEscape)) refl
    (either line (is_escape b) (goes (mode.Text s)) (stops line cause.BadEscape) tt refl)

-- ---- what a text leaves

abbrev pub ends : Mode → ℕ → ℕ → List ℕ → Next
ends m at line bs = (token_scan m at line bs).ending

abbrev pub leaves : Next → ℕ → ℕ → ℕ → List ℕ → Next
leaves (Goes n) at line b bs = ends n (at + 1) (line_after line b) bs
leaves (Stops l c) at line b bs = Stops l c

pub byte_leaves : (n : Next) (at line b : ℕ) (bs : List ℕ)
    → (let r : Tokens =
    elim n [ Goes k ↦ token_scan k (at + 1) (line_after line b) bs | Stops l c ↦ record { tokens = []; ending = Stops l c } ] in
    r.ending) ≡ leaves n at line b bs
byte_leaves (Goes n) at line b bs = refl
byte_leaves (Stops l c) at line b bs = refl

-- what one byte and those after it leave
data Byte (m : Mode) (at line b : ℕ) : Type 0 where
  halts : (l : ℕ) (c : SourceCause) → l ≡ line → ((bs : List ℕ) → ends m at line (b ∷ bs) ≡ Stops l c) → Byte m at line b
  runs : (n : Mode) → (stepped m at line b).next ≡ Goes n
      → ((bs : List ℕ) → ends m at line (b ∷ bs) ≡ ends n (at + 1) (line_after line b) bs) → Byte m at line b

byte : (m : Mode) (at line b : ℕ) → Byte m at line b
byte m at line b = by_next (stepped m at line b).next refl (step_in m at line b)
  where
    by_next : (n : Next) → (stepped m at line b).next ≡ n → StopsIn line n → Byte m at line b
    by_next (Goes n) e h =
        Byte.runs n e (λ bs. byte_leaves (stepped m at line b).next at line b bs ∙ ap (λ (x : Next). leaves x at line b bs) e)
    by_next (Stops l c) e h =
        Byte.halts l c h (λ bs. byte_leaves (stepped m at line b).next at line b bs ∙ ap (λ (x : Next). leaves x at line b bs) e)

stops_same : {l k : ℕ} {c d : SourceCause} → Stops l c ≡ Stops k d → l ≡ k
stops_same e = cc

goes_stops : {m : Mode} {l : ℕ} {c : SourceCause} → Goes m ≡ Stops l c → ⊥
goes_stops e = absurd cc

pub line_newline : (line b : ℕ) → (b == 10) ≡ true → line_after line b ≡ line + 1
unfolding line_after
line_newline line b h = rw h refl

record Dies (m : Mode) (at line : ℕ) (text : List ℕ) (l : ℕ) (c : SourceCause) : Type 0 where
  not_before : line ≤ l
  dead : (n : ℕ) → n + line ≡ l → (more : List ℕ) → ends m at line (first_lines (suc n) text ++ more) ≡ Stops l c

dies : (text : List ℕ) (m : Mode) (at line l : ℕ) (c : SourceCause) → ends m at line (text ++ 10 ∷ []) ≡ Stops l c → Dies m at line text l c
dies [] m at line l c h = elim (byte m at line 10) [
  | Byte.halts k d e all ↦ record {
    not_before = omega (arith, e, stops_same (sym (all []) ∙ h));
    dead = λ n q more. all more ∙ (sym (all []) ∙ h);
  }
  | Byte.runs n e all ↦ absurd (goes_stops (sym (all []) ∙ h))
]
dies (b ∷ bs) m at line l c h = elim (byte m at line b) [
  | Byte.halts k d e all ↦ record {
    not_before = omega (arith, e, stops_same (sym (all (bs ++ 10 ∷ [])) ∙ h));
    dead = λ n q more. all _ ∙ (sym (all (bs ++ 10 ∷ [])) ∙ h);
  }
  | Byte.runs n e all ↦ deeper n all (dies bs n (at + 1) (line_after line b) l c (sym (all (bs ++ 10 ∷ [])) ∙ h)) (b == 10) refl
]
  where
    deeper : (n : Mode) → ((bs : List ℕ) → ends m at line (b ∷ bs) ≡ ends n (at + 1) (line_after line b) bs)
        → Dies n (at + 1) (line_after line b) bs l c → (t : Bool) → (b == 10) ≡ t → Dies m at line (b ∷ bs) l c
    deeper n all w true t = record { not_before = omega (arith, w.not_before, line_newline line b t); dead = at_count }
      where
        at_count : (k : ℕ) → k + line ≡ l → (more : List ℕ) → ends m at line (first_lines (suc k) (b ∷ bs) ++ more) ≡ Stops l c
        at_count zero q more = absurd (omega (arith, w.not_before, line_newline line b t))
        at_count (suc k) q more =
            let rest : first_lines (suc (suc k)) (b ∷ bs) ≡ b ∷ first_lines (suc k) bs = rw t refl in
            ap (λ (x : List ℕ). ends m at line (x ++ more)) rest
            ∙ (all (first_lines (suc k) bs ++ more) ∙ w.dead k (omega (arith, line_newline line b t)) more)
    deeper n all w false t = record { not_before = omega (arith, w.not_before, line_stays line b t); dead = at_count }
      where
        at_count : (k : ℕ) → k + line ≡ l → (more : List ℕ) → ends m at line (first_lines (suc k) (b ∷ bs) ++ more) ≡ Stops l c
        at_count k q more =
            let rest : first_lines (suc k) (b ∷ bs) ≡ b ∷ first_lines (suc k) bs = rw t refl in
            ap (λ (x : List ℕ). ends m at line (x ++ more)) rest
            ∙ (all (first_lines (suc k) bs ++ more) ∙ w.dead k (omega (arith, line_stays line b t)) more)

-- The lines before it leave nothing open but a comment.
record Lives (m : Mode) (at line : ℕ) (text : List ℕ) (n : ℕ) : Type 0 where
  mode_then : Mode
  at_then : ℕ
  line_then : ℕ
  closed : IsClosed (Goes mode_then)
  goes_on : (more : List ℕ) → ends m at line (first_lines n text ++ more) ≡ ends mode_then at_then line_then more

lives : (text : List ℕ) (m : Mode) (at line l : ℕ) (c : SourceCause) → ends m at line (text ++ 10 ∷ []) ≡ Stops l c → (n : ℕ)
    → (n ≡ 0 → IsClosed (Goes m)) → n + line ≤ l → Lives m at line text n
lives text m at line l c h zero closed le =
    record { mode_then = m; at_then = at; line_then = line; closed = closed refl; goes_on = λ more. refl }
lives [] m at line l c h (suc n) closed le = elim (byte m at line 10) [
  | Byte.halts k d e all ↦ absurd (omega (arith, e, stops_same (sym (all []) ∙ h)))
  | Byte.runs n e all ↦ absurd (goes_stops (sym (all []) ∙ h))
]
lives (b ∷ bs) m at line l c h (suc n) closed le = elim (byte m at line b) [
  | Byte.halts k d e all ↦ absurd (omega (arith, e, stops_same (sym (all (bs ++ 10 ∷ [])) ∙ h)))
  | Byte.runs k e all ↦ deeper k e all (lives bs k (at + 1) (line_after line b) l c (sym (all (bs ++ 10 ∷ [])) ∙ h)) (b == 10) refl
]
  where
    behind : (k : Mode) (i : ℕ) → first_lines (suc n) (b ∷ bs) ≡ b ∷ first_lines i bs
        → ((bs : List ℕ) → ends m at line (b ∷ bs) ≡ ends k (at + 1) (line_after line b) bs) → Lives k (at + 1) (line_after line b) bs i
        → Lives m at line (b ∷ bs) (suc n)
    behind k i rest all w = record {
      mode_then = w.mode_then;
      at_then = w.at_then;
      line_then = w.line_then;
      closed = w.closed;
      goes_on = λ more. ap (λ (x : List ℕ). ends m at line (x ++ more)) rest ∙ (all (first_lines i bs ++ more) ∙ w.goes_on more);
    }

    newline_closed : (k : Mode) → (stepped m at line b).next ≡ Goes k → (b == 10) ≡ true → IsClosed (Goes k)
    newline_closed k e t =
        let is : b ≡ 10 = eqb-true b 10 t in
        subst IsClosed (ap (λ (x : ℕ). (stepped m at line x).next) (sym is) ∙ e) (at_newline m at line)

    deeper : (k : Mode) → (stepped m at line b).next ≡ Goes k
        → ((bs : List ℕ) → ends m at line (b ∷ bs) ≡ ends k (at + 1) (line_after line b) bs)
        → ((i : ℕ) → (i ≡ 0 → IsClosed (Goes k)) → i + line_after line b ≤ l → Lives k (at + 1) (line_after line b) bs i) → (t : Bool)
        → (b == 10) ≡ t → Lives m at line (b ∷ bs) (suc n)
    deeper k e all ih true t = behind k n (rw t refl) all (ih n (λ z. newline_closed k e t) (omega (arith, line_newline line b t)))
    deeper k e all ih false t =
        behind k (suc n) (rw t refl) all (ih (suc n) (λ z. absurd (omega (arith, z))) (omega (arith, line_stays line b t)))

-- ---- whole texts

has_ends : (text : List ℕ) → HasTokens text → ends mode.Between 0 1 (text ++ 10 ∷ []) ≡ Goes mode.Between
has_ends text (ws, lexed) =
    let q = same (text ++ 10 ∷ []) mode.Between [] 0 1 refl (omega arith) in
    sym q.ending ∙ ap (λ (s : Scan). s.ending) (again lexed [] refl)

pub ends_has : (text : List ℕ) → ends mode.Between 0 1 (text ++ 10 ∷ []) ≡ Goes mode.Between → HasTokens text
ends_has text h =
    let q = same (text ++ 10 ∷ []) mode.Between [] 0 1 refl (omega arith) in
    let whole : (scan mode.Between [] 0 1 (text ++ 10 ∷ [])).ending ≡ Goes mode.Between = q.ending ∙ h in (
      (scan mode.Between [] 0 1 (text ++ 10 ∷ [])).words,
      found (text ++ 10 ∷ []) [] 0 1 (scan mode.Between [] 0 1 (text ++ 10 ∷ [])).words refl
          (ap (λ (n : Next). record { words = (scan mode.Between [] 0 1 (text ++ 10 ∷ [])).words; ending = n }) whole),
    )

never : (text : List ℕ) (l : ℕ) (c : SourceCause) → ends mode.Between 0 1 (text ++ 10 ∷ []) ≡ Stops l c → (more : List ℕ)
    → HasTokens (first_lines l text ++ more) → ⊥
never text zero c h more has = absurd (omega (arith, (dies text mode.Between 0 1 zero c h).not_before))
never text (suc n) c h more has =
    let w = dies text mode.Between 0 1 (suc n) c h in
    let e =
    ap (ends mode.Between 0 1) (append_assoc (first_lines (suc n) text) more (10 ∷ [])) ∙ w.dead n (omega arith) (more ++ 10 ∷ []) in
    goes_stops (sym (has_ends (first_lines (suc n) text ++ more) has) ∙ e)

-- what ends an open comment
closing : Mode → List ℕ
closing (mode.Block l) = 42 ∷ 47 ∷ []
closing _ = []

closes : (m : Mode) (at line : ℕ) → IsClosed (Goes m) → ends m at line (closing m ++ 10 ∷ []) ≡ Goes mode.Between
unfolding closing class_of is_source
closes mode.Between at line k = refl
closes (mode.Block l) at line k = refl
closes mode.Slash at line k = absurd k
closes mode.Line at line k = absurd k
closes (mode.Star l) at line k = absurd k
closes (mode.Word a) at line k = absurd k
closes (mode.Number a d) at line k = absurd k
closes (mode.Quote a) at line k = absurd k
closes (mode.Text a) at line k = absurd k
closes (mode.Escape a) at line k = absurd k

goes_further : (text : List ℕ) (l : ℕ) (c : SourceCause) → ends mode.Between 0 1 (text ++ 10 ∷ []) ≡ Stops l c → (n : ℕ) → n < l
    → (more : List ℕ) × HasTokens (first_lines n text ++ more)
goes_further text l c h n lt =
    let w = lives text mode.Between 0 1 l c h n (λ z. tt) (omega arith) in (
      closing w.mode_then,
      ends_has (first_lines n text ++ closing w.mode_then)
          (ap (ends mode.Between 0 1) (append_assoc (first_lines n text) (closing w.mode_then) (10 ∷ []))
          ∙ (w.goes_on (closing w.mode_then ++ 10 ∷ []) ∙ closes w.mode_then w.at_then w.line_then w.closed)),
    )

pub refused_at : (text : List ℕ) (r : Result (Vec Token) SourceFault)
    → LexesTo r (token_scan mode.Between 0 1 (text ++ 10 ∷ [])) → RefusedAt text r
refused_at text (Ok v) h = tt
refused_at text (Err fault.Memory) h = tt
refused_at text (Err (fault.At l c)) (inl e) = λ other. (never text l c e, goes_further text l c e)
refused_at text (Err (fault.At l c)) (inr (e, o)) = λ other. absurd (other o)
