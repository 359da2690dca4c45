-- A text is refused in one line for one cause, and one that is refused has no tokens.
use Rattle.std.proofs.Common.{◌≡◌, ◌⊎◌, ℕ, ◌+◌, ◌<◌, Bool, true, false, List, [], ◌∷◌, ◌++◌, length, Result, Ok, Err, refl, sym, ap, subst, ◌∙◌, inl, inr, arith}
use Rattle.std.specs.Global.{Vec}
use Rattle.asm_lex.specs.declared.bytes.Class.TheVariants as class
use Rattle.asm_lex.specs.declared.token.Token.{Token}
use Rattle.asm_lex.specs.declared.machine.Mode.TheVariants as mode
use Rattle.asm_lex.specs.declared.machine.Next.{Next}
use Rattle.asm_lex.specs.declared.machine.Next.TheVariants.{Goes, Stops}
use Rattle.asm_lex.specs.declared.fault.SourceCause.{SourceCause}
use Rattle.asm_lex.specs.declared.fault.SourceCause.TheVariants as cause
use Rattle.asm_lex.specs.declared.fault.SourceFault.{SourceFault}
use Rattle.asm_lex.specs.declared.fault.SourceFault.TheVariants as fault
use Rattle.asm_lex.specs.Words.{line_after}
use Rattle.asm_lex.specs.Scans.{Scan, scan}
use Rattle.asm_lex.specs.Tokens.{token_scan, LexesTo, AreTokens}
use Rattle.asm_lex.specs.Source.{lines_after}
use Rattle.asm_lex.specs.Lines.{HasTokens, IsFirstDead}
use Rattle.asm_lex.specs.Refused.{Wrong, IsRefused, RefusesAs}
use Rattle.asm_lex.proofs.Again.{comment_mode, class_line, skip_gap, over_token, again}
use Rattle.asm_lex.proofs.TextTokens.{IsClosed, same, last_closed, are_tokens}
use Rattle.asm_lex.proofs.FaultLines.{ends_has, refused_at}
use Rattle.asm_lex.proofs.Refusals.{refused_for}
use Rattle.asm_lex.proofs.Breaking.{wrong_breaks, wrong_cause, comment_leaves, seen_more}

-- ---- how the scan of what is wrong ends

abbrev Ends : ℕ → SourceCause → Next → Type 0
Ends l c n = ((n ≡ Stops l c) × (c ≡ cause.OpenComment → ⊥)) ⊎ ((c ≡ cause.OpenComment) × (star : Bool) × (n ≡ Goes (comment_mode star l)))

wrong_ends : {line l : ℕ} {text : List ℕ} {c : SourceCause} → Wrong line text l c → (seen : List ℕ) (at : ℕ) → length seen ≡ at
    → Ends l c (scan mode.Between seen at line text).ending
wrong_ends {line} {l} {text} {c} (Wrong.gap piece rest e g more) seen at so =
    let ending : (scan mode.Between seen at line text).ending
    ≡ (scan mode.Between (seen ++ piece) (at + length piece) (lines_after line piece) rest).ending =
    ap (λ (x : List ℕ). (scan mode.Between seen at line x).ending) e ∙ ap (λ (x : Scan). x.ending) (skip_gap piece rest g seen at line) in
    subst (Ends l c) (sym ending) (wrong_ends more (seen ++ piece) (at + length piece) (seen_more seen piece at so))
wrong_ends {line} {l} {text} {c} (Wrong.token k piece rest e t more) seen at so =
    let ending : (scan mode.Between seen at line text).ending
    ≡ (scan mode.Between (seen ++ piece) (at + length piece) (lines_after line piece) rest).ending =
    ap (λ (x : List ℕ). (scan mode.Between seen at line x).ending) e
    ∙ ap (λ (x : Scan). x.ending) (over_token k piece rest t seen at line so) in
    subst (Ends l c) (sym ending) (wrong_ends more (seen ++ piece) (at + length piece) (seen_more seen piece at so))
wrong_ends {line} {l} {text} {c} (Wrong.here piece rest next e is at_line) seen at so =
    inl (
      ap (λ (x : List ℕ). (scan mode.Between seen at line x).ending) e
          ∙ (ap (λ (x : Scan). x.ending) (wrong_breaks piece rest next c is seen at line) ∙ ap (λ (x : ℕ). Stops x c) (sym at_line)),
      wrong_cause is,
    )
wrong_ends {line} (Wrong.open_comment {b} {d} {bs} k e u) seen at so =
    let stays : line_after line b ≡ line = class_line b line class.Slash k (λ x. cc) in
    let left = comment_leaves bs false ((seen ++ b ∷ []) ++ d ∷ []) (at + 1 + 1) (line_after (line_after line b) d) line u in
    let opened : scan mode.Between seen at line (b ∷ d ∷ bs) ≡ scan (mode.Block line) ((seen ++ b ∷ []) ++ d ∷ []) (at + 1 + 1)
    (line_after (line_after line b) d) bs = rw (k, e, stays) refl in
    inr (refl, left.0, ap (λ (x : Scan). x.ending) opened ∙ left.1)

comment_lines : (s t : Bool) (l k : ℕ) → Goes (comment_mode s l) ≡ Goes (comment_mode t k) → l ≡ k
comment_lines true true l k e = cc
comment_lines true false l k e = absurd cc
comment_lines false true l k e = absurd cc
comment_lines false false l k e = cc

not_between : (s : Bool) (l : ℕ) → Goes mode.Between ≡ Goes (comment_mode s l) → ⊥
not_between true l e = cc
not_between false l e = cc

abbrev One : ℕ → SourceCause → ℕ → SourceCause → Type 0
One l c k d = (l ≡ k) × (c ≡ d)

one_end : (n : Next) (l k : ℕ) (c d : SourceCause) → Ends l c n → Ends k d n → One l c k d
one_end n l k c d (inl (p, x)) (inl (q, y)) = let e : Stops l c ≡ Stops k d = sym p ∙ q in (cc, cc)
one_end n l k c d (inl (p, x)) (inr (y, s, q)) = let e : Stops l c ≡ Goes (comment_mode s k) = sym p ∙ q in absurd cc
one_end n l k c d (inr (x, s, p)) (inl (q, y)) = let e : Stops k d ≡ Goes (comment_mode s l) = sym q ∙ p in absurd cc
one_end n l k c d (inr (x, s, p)) (inr (y, t, q)) = (comment_lines s t l k (sym p ∙ q), x ∙ sym y)

-- ---- whole texts

refused_ends : (text : List ℕ) (l : ℕ) (c : SourceCause) → IsRefused text l c → Ends l c (scan mode.Between [] 0 1 (text ++ 10 ∷ [])).ending
refused_ends text l c w = wrong_ends w [] 0 refl

pub one_refusal : (text : List ℕ) (l k : ℕ) (c d : SourceCause) → IsRefused text l c → IsRefused text k d → One l c k d
one_refusal text l k c d p q =
    one_end (scan mode.Between [] 0 1 (text ++ 10 ∷ [])).ending l k c d (refused_ends text l c p) (refused_ends text k d q)

pub no_tokens : (text : List ℕ) (l : ℕ) (c : SourceCause) → IsRefused text l c → HasTokens text → ⊥
no_tokens text l c p (ws, lexed) = by_end (refused_ends text l c p) (ap (λ (s : Scan). s.ending) (again lexed [] refl))
  where
    by_end : Ends l c (scan mode.Between [] 0 1 (text ++ 10 ∷ [])).ending → (scan mode.Between [] 0 1 (text ++ 10 ∷ [])).ending
        ≡ Goes mode.Between → ⊥
    by_end (inl (e, x)) h = let f : Stops l c ≡ Goes mode.Between = sym e ∙ h in absurd cc
    by_end (inr (x, s, e)) h = not_between s l (sym h ∙ e)

pub no_token_list : (text : List ℕ) (l : ℕ) (c : SourceCause) (tokens : List Token) → IsRefused text l c → AreTokens text tokens → ⊥
no_token_list text l c tokens p (ws, lexed, is) = no_tokens text l c p (ws, lexed)

-- the line of the words is the first that no text goes on from
pub refused_line : (text : List ℕ) (l : ℕ) (c : SourceCause) → IsRefused text l c → (c ≡ cause.OpenComment → ⊥) → IsFirstDead text l
refused_line text l c p other = by_end (refused_ends text l c p)
  where
    by_end : Ends l c (scan mode.Between [] 0 1 (text ++ 10 ∷ [])).ending → IsFirstDead text l
    by_end (inl (e, x)) =
        refused_at text (Err (fault.At l c)) (inl (sym (same (text ++ 10 ∷ []) mode.Between [] 0 1 refl (omega arith)).ending ∙ e)) other
    by_end (inr (x, s, e)) = absurd (other x)

not_later : (text : List ℕ) (l k : ℕ) → IsFirstDead text l → IsFirstDead text k → l < k → ⊥
not_later text l k p q lt = let m = q.1 l lt in p.0 m.0 m.1

pub one_dead_line : (text : List ℕ) (l k : ℕ) → IsFirstDead text l → IsFirstDead text k → l ≡ k
one_dead_line text l k p q = let a = not_later text l k p q in let b = not_later text k l q p in omega (arith, a, b)

-- what has no tokens is refused
pub refused_or_read : (text : List ℕ) → (HasTokens text → ⊥) → (l : ℕ) × (c : SourceCause) × IsRefused text l c
refused_or_read text none = by_end (token_scan mode.Between 0 1 (text ++ 10 ∷ [])).ending refl (last_closed text mode.Between 0 1)
  where
    by_end : (n : Next) → (token_scan mode.Between 0 1 (text ++ 10 ∷ [])).ending ≡ n
        → IsClosed (token_scan mode.Between 0 1 (text ++ 10 ∷ [])).ending → (l : ℕ) × (c : SourceCause) × IsRefused text l c
    by_end (Stops l c) e k = (l, c, refused_for text (Err (fault.At l c)) (inl e))
    by_end (Goes (mode.Block l)) e k = (l, cause.OpenComment, refused_for text (Err (fault.At l cause.OpenComment)) (inr (e, refl)))
    by_end (Goes mode.Between) e k = absurd (none (ends_has text e))
    by_end (Goes _) e k = absurd (subst IsClosed e k)

-- what is refused in these words is refused so
pub refused_only : (text : List ℕ) (r : Result (Vec Token) SourceFault) → LexesTo r (token_scan mode.Between 0 1 (text ++ 10 ∷ []))
    → (l : ℕ) (c : SourceCause) → IsRefused text l c → RefusesAs l c r
refused_only text (Ok v) h l c p = no_token_list text l c v.items p (are_tokens text (Ok v) h)
refused_only text (Err fault.Memory) h l c p = tt
refused_only text (Err (fault.At k d)) h l c p = one_refusal text k l d c (refused_for text (Err (fault.At k d)) h) p
