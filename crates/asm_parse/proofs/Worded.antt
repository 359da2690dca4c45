-- The words of a text are those of its scan, up to what ends them.
use Rattle.std.proofs.Common.{◌≡◌, ℕ, ◌+◌, Bool, true, false, List, [], ◌∷◌, ◌++◌, length, Err, refl, sym, ap, subst, ◌∙◌, ◌⊎◌, inl, inr, arith}
use Rattle.std.specs.Prelude.{◌==◌}
use Rattle.asm_lex.specs.declared.machine.Mode.{Mode}
use Rattle.asm_lex.specs.declared.machine.Mode.TheVariants as mode
use Rattle.asm_lex.specs.declared.machine.Next.{Next}
use Rattle.asm_lex.specs.declared.machine.Next.TheVariants.{Goes, Stops}
use Rattle.asm_lex.specs.declared.fault.SourceCause.{SourceCause}
use Rattle.asm_lex.specs.declared.fault.SourceCause.TheVariants as cause
use Rattle.asm_lex.specs.declared.fault.SourceFault.TheVariants as fault
use Rattle.asm_lex.specs.Words.{Word, line_after}
use Rattle.asm_lex.specs.Scans.{Scan, scan}
use Rattle.asm_lex.specs.Tokens.{token_scan}
use Rattle.asm_lex.specs.Source.{lines_after, Lexed}
use Rattle.asm_lex.specs.Refusals.{is_unclosed}
use Rattle.asm_lex.specs.Refused.{Wrong}
use Rattle.asm_lex.proofs.Again.{skip_gap, over_token, comment_mode, in_body}
use Rattle.asm_lex.proofs.Found.{found}
use Rattle.asm_lex.proofs.TextTokens.{same, IsClosed, last_closed}
use Rattle.asm_lex.proofs.Refusals.{refused_for}
use Rattle.asm_lex.proofs.Breaking.{unclosed_parts, comment_empty, wrong_breaks, wrong_cause, seen_more}
use Rattle.asm_parse.specs.Refusals.{Ending, Worded}

-- ---- the words

-- how a scan ends
pub data EndsSo : Ending → Next → Type 0 where
  whole : EndsSo Ending.whole (Goes mode.Between)
  broken : {l : ℕ} {c : SourceCause} → EndsSo (Ending.broken l c) (Stops l c)
  comment : {l : ℕ} → EndsSo (Ending.comment l) (Goes (mode.Block l))

pub lexed_worded : {at line : ℕ} {text : List ℕ} {ws : List Word} → Lexed at line text ws → Worded at line text ws Ending.whole
lexed_worded Lexed.none = Worded.none
lexed_worded (Lexed.gap piece rest e g more) = Worded.gap piece rest e g (lexed_worded more)
lexed_worded (Lexed.token k piece rest e t more) = Worded.token k piece rest e t (lexed_worded more)

abbrev wrong_ending : ℕ → SourceCause → Ending → Next → Type 0
wrong_ending l c e n =
    ((e ≡ Ending.broken l c) × (c ≡ cause.OpenComment → ⊥)) ⊎ ((e ≡ Ending.comment l) × (c ≡ cause.OpenComment) × (m : Mode) × (n ≡ Goes m))

comment_goes : (bs : List ℕ) (star : Bool) (seen : List ℕ) (at line l : ℕ) → is_unclosed star bs ≡ true → (m : Mode)
    × ((scan (comment_mode star l) seen at line bs).ending ≡ Goes m)
comment_goes [] true seen at line l u = (_, refl)
comment_goes [] false seen at line l u = (_, refl)
comment_goes (b ∷ bs) star seen at line l u =
    let p = unclosed_parts star b bs u in
    let g = comment_goes bs (b == 42) (seen ++ b ∷ []) (at + 1) (line_after line b) l p.2 in
    (g.0, ap (λ (x : Scan). x.ending) (in_body star b bs seen at line l p.0 p.1) ∙ g.1)

abbrev WordedWrong : ℕ → ℕ → List ℕ → List ℕ → ℕ → SourceCause → Type 0
WordedWrong at line text seen l c = (e : Ending) × wrong_ending l c e (scan mode.Between seen at line text).ending
    × Worded at line text (scan mode.Between seen at line text).words e

wrong_worded : {line l : ℕ} {text : List ℕ} {c : SourceCause} → Wrong line text l c → (seen : List ℕ) (at : ℕ) → length seen ≡ at
    → WordedWrong at line text seen l c
wrong_worded {line} {l} {text} {c} (Wrong.gap piece rest e g more) seen at same =
    let w = wrong_worded more (seen ++ piece) (at + length piece) (seen_more seen piece at same) in
    let words : (scan mode.Between seen at line text).words
    ≡ (scan mode.Between (seen ++ piece) (at + length piece) (lines_after line piece) rest).words =
    ap (λ (x : List ℕ). (scan mode.Between seen at line x).words) e ∙ ap (λ (x : Scan). x.words) (skip_gap piece rest g seen at line) in
    let ending : (scan mode.Between seen at line text).ending
    ≡ (scan mode.Between (seen ++ piece) (at + length piece) (lines_after line piece) rest).ending =
    ap (λ (x : List ℕ). (scan mode.Between seen at line x).ending) e ∙ ap (λ (x : Scan). x.ending) (skip_gap piece rest g seen at line) in (
      w.0,
      subst (wrong_ending l c w.0) (sym ending) w.1,
      Worded.gap piece rest e g (subst (λ (x : List Word). Worded (at + length piece) (lines_after line piece) rest x w.0) (sym words) w.2),
    )
wrong_worded {line} {l} {text} {c} (Wrong.token k piece rest e t more) seen at same =
    let w = wrong_worded more (seen ++ piece) (at + length piece) (seen_more seen piece at same) in
    let words : (scan mode.Between seen at line text).words
    ≡ record { kind = k; at = at; line = line; bytes = piece } ∷ (scan mode.Between (seen ++ piece) (at + length piece)
    (lines_after line piece) rest).words =
    ap (λ (x : List ℕ). (scan mode.Between seen at line x).words) e
    ∙ ap (λ (x : Scan). x.words) (over_token k piece rest t seen at line same) in
    let ending : (scan mode.Between seen at line text).ending
    ≡ (scan mode.Between (seen ++ piece) (at + length piece) (lines_after line piece) rest).ending =
    ap (λ (x : List ℕ). (scan mode.Between seen at line x).ending) e
    ∙ ap (λ (x : Scan). x.ending) (over_token k piece rest t seen at line same) in (
      w.0,
      subst (wrong_ending l c w.0) (sym ending) w.1,
      subst (λ (x : List Word). Worded at line text x w.0) (sym words) (Worded.token k piece rest e t w.2),
    )
wrong_worded {line} {l} {text} {c} (Wrong.here piece rest next e is at_line) seen at same =
    let words : (scan mode.Between seen at line text).words ≡ [] = ap (λ (x : List ℕ). (scan mode.Between seen at line x).words) e
    ∙ ap (λ (x : Scan). x.words) (wrong_breaks piece rest next c is seen at line) in (
      Ending.broken (lines_after line piece) c,
      inl (ap (λ (x : ℕ). Ending.broken x c) (sym at_line), wrong_cause is),
      subst (λ (x : List Word). Worded at line text x (Ending.broken (lines_after line piece) c)) (sym words)
          (Worded.broken piece rest e is),
    )
wrong_worded {line} (Wrong.open_comment {b} {d} {bs} k e u) seen at same =
    let words : (scan mode.Between seen at line (b ∷ d ∷ bs)).words ≡ [] =
    rw (k, e) (comment_empty bs false ((seen ++ b ∷ []) ++ d ∷ []) (at + 1 + 1) (line_after (line_after line b) d) (line_after line b) u) in
    let goes = comment_goes bs false ((seen ++ b ∷ []) ++ d ∷ []) (at + 1 + 1) (line_after (line_after line b) d) (line_after line b) u in
    let ending : (scan mode.Between seen at line (b ∷ d ∷ bs)).ending ≡ Goes goes.0 = rw (k, e) goes.1 in (
      Ending.comment line,
      inr (refl, refl, goes.0, ending),
      subst (λ (x : List Word). Worded at line (b ∷ d ∷ bs) x (Ending.comment line)) (sym words) (Worded.comment k e u),
    )

-- The words of a text are those of its scan.
pub text_worded : (text : List ℕ) → (e : Ending) × EndsSo e (scan mode.Between [] 0 1 (text ++ 10 ∷ [])).ending
    × Worded 0 1 (text ++ 10 ∷ []) (scan mode.Between [] 0 1 (text ++ 10 ∷ [])).words e
text_worded text =
    let s = same (text ++ 10 ∷ []) mode.Between [] 0 1 refl (omega arith) in
    by_ending (scan mode.Between [] 0 1 (text ++ 10 ∷ [])).ending refl
    (subst IsClosed (sym s.ending) (last_closed text mode.Between 0 1)) s.ending
  where
    of_wrong : (l : ℕ) (c : SourceCause) → Wrong 1 (text ++ 10 ∷ []) l c → (n : Next) → (scan mode.Between [] 0 1 (text ++ 10 ∷ [])).ending
        ≡ n → ((e : Ending) → wrong_ending l c e n → EndsSo e n)
        → (e : Ending) × EndsSo e (scan mode.Between [] 0 1 (text ++ 10 ∷ [])).ending
        × Worded 0 1 (text ++ 10 ∷ []) (scan mode.Between [] 0 1 (text ++ 10 ∷ [])).words e
    of_wrong l c w n is so =
        let g = wrong_worded w [] 0 refl in
        (g.0, subst (EndsSo g.0) (sym is) (so g.0 (subst (wrong_ending l c g.0) is g.1)), g.2)

    by_ending : (n : Next) → (scan mode.Between [] 0 1 (text ++ 10 ∷ [])).ending ≡ n
        → IsClosed (scan mode.Between [] 0 1 (text ++ 10 ∷ [])).ending → (scan mode.Between [] 0 1 (text ++ 10 ∷ [])).ending
        ≡ (token_scan mode.Between 0 1 (text ++ 10 ∷ [])).ending
        → (e : Ending) × EndsSo e (scan mode.Between [] 0 1 (text ++ 10 ∷ [])).ending
        × Worded 0 1 (text ++ 10 ∷ []) (scan mode.Between [] 0 1 (text ++ 10 ∷ [])).words e
    by_ending (Goes mode.Between) is closed tokens =
        let whole : scan mode.Between [] 0 1 (text ++ 10 ∷ [])
        ≡ record { words = (scan mode.Between [] 0 1 (text ++ 10 ∷ [])).words; ending = Goes mode.Between } =
        ap (λ (n : Next). record { words = (scan mode.Between [] 0 1 (text ++ 10 ∷ [])).words; ending = n }) is in (
          Ending.whole,
          subst (EndsSo Ending.whole) (sym is) EndsSo.whole,
          lexed_worded (found (text ++ 10 ∷ []) [] 0 1 (scan mode.Between [] 0 1 (text ++ 10 ∷ [])).words refl whole),
        )
    by_ending (Stops l c) is closed tokens =
        of_wrong l c (refused_for text (Err (fault.At l c)) (inl (sym tokens ∙ is))) (Stops l c) is stops_so
      where
        stops_so : (e : Ending) → wrong_ending l c e (Stops l c) → EndsSo e (Stops l c)
        stops_so e (inl (f, other)) = rw f EndsSo.broken
        stops_so e (inr (f, g, m, h)) = absurd cc
    by_ending (Goes (mode.Block l)) is closed tokens =
        of_wrong l cause.OpenComment (refused_for text (Err (fault.At l cause.OpenComment)) (inr (sym tokens ∙ is, refl)))
        (Goes (mode.Block l)) is block_so
      where
        block_so : (e : Ending) → wrong_ending l cause.OpenComment e (Goes (mode.Block l)) → EndsSo e (Goes (mode.Block l))
        block_so e (inl (f, other)) = absurd (other refl)
        block_so e (inr (f, g, m, h)) = rw f EndsSo.comment
    by_ending (Goes _) is closed tokens = absurd (subst IsClosed is closed)
