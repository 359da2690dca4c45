-- The tokens' scan gives the words' tokens, so what it gives are the tokens of the text.
use Rattle.std.proofs.Common.{◌≡◌, ℕ, ◌+◌, ◌-◌, ◌≤◌, List, [], ◌∷◌, ◌++◌, length, take, drop, map, Option, Some, None, Result, Ok, Err, refl, sym, ap, subst, ◌∙◌, append_assoc, arith, Bool, true, false, cond, inl, inr}
use Rattle.std.specs.Prelude.{IfOk}
use Rattle.std.specs.Option.{option_to_list}
use Rattle.std.specs.Global.{Vec}
use Rattle.std.proofs.lemmas.List.{length-append, length-take, length-drop}
use Rattle.asm_lex.specs.Bytes.{class_of, is_source, is_letter, is_word}
use Rattle.asm_lex.specs.declared.fault.SourceCause.TheVariants as cause
use Rattle.asm_lex.specs.declared.fault.SourceFault.{SourceFault}
use Rattle.asm_lex.specs.declared.token.Token.{Token}
use Rattle.asm_lex.specs.declared.token.TokenKind.TheVariants as kind
use Rattle.asm_lex.specs.declared.machine.Mode.{Mode}
use Rattle.asm_lex.specs.declared.machine.Mode.TheVariants as mode
use Rattle.asm_lex.specs.declared.machine.Next.{Next}
use Rattle.asm_lex.specs.declared.machine.Next.TheVariants.{Goes, Stops}
use Rattle.asm_lex.specs.declared.machine.Stepped.{Stepped}
use Rattle.asm_lex.specs.Machine.{stepped, after, stops, is_whole, start_of}
use Rattle.asm_lex.specs.Words.{line_after}
use Rattle.asm_lex.specs.Scans.{Scan, scan, with_token, token_of}
use Rattle.asm_lex.specs.declared.fault.SourceFault.TheVariants as fault
use Rattle.asm_lex.specs.Tokens.{Tokens, in_front, token_scan, is_block, LexesTo, AreTokens, LexedAs}
use Rattle.asm_lex.proofs.Stepping.{FitsIn, Starts, Sound, sound}
use Rattle.asm_lex.proofs.Found.{found}
use Rattle.asm_lex.proofs.Again.{again}

token_words : (seen : List ℕ) (line n : ℕ) (t : Option Token) (s : Scan) → length seen ≡ n → FitsIn n t
    → map token_of (with_token seen line t s).words ≡ option_to_list t ++ map token_of s.words
token_words seen line n None s e h = refl
token_words seen line n (Some t) s e h =
    let len : length (take t.len (drop t.at seen)) ≡ t.len = omega (arith, length-take t.len (drop t.at seen), length-drop t.at seen) in
    rw len refl

pub ending_same : (seen : List ℕ) (line : ℕ) (t : Option Token) (s : Scan) → (with_token seen line t s).ending ≡ s.ending
ending_same seen line None s = refl
ending_same seen line (Some t) s = refl

pub record Same (s : Scan) (t : Tokens) : Type 0 where
  pub tokens : map token_of s.words ≡ t.tokens
  pub ending : s.ending ≡ t.ending

pub same : (bs : List ℕ) (m : Mode) (seen : List ℕ) (at line : ℕ) → length seen ≡ at → start_of m at ≤ at
    → Same (scan m seen at line bs) (token_scan m at line bs)
same [] m seen at line e h = record { tokens = refl; ending = refl }
same (b ∷ bs) m seen at line e h = from_next (stepped m at line b) (sound m at line b h)
    (λ n k. same bs n (seen ++ b ∷ []) (at + 1) (line_after line b) (omega (arith, length-append seen (b ∷ []))) k)
  where
    joined : (s : Stepped) (r : Scan) (t : Tokens) → Sound at s → Same r t
        → Same (with_token (seen ++ b ∷ []) line s.first (with_token (seen ++ b ∷ []) line s.second r))
        (in_front (option_to_list s.first ++ option_to_list s.second) t)
    joined s r t sd q =
        let len : length (seen ++ b ∷ []) ≡ at + 1 = omega (arith, length-append seen (b ∷ [])) in
        record {
          tokens = token_words (seen ++ b ∷ []) line (at + 1) s.first (with_token (seen ++ b ∷ []) line s.second r) len sd.first
              ∙ (ap (λ (x : List Token). option_to_list s.first ++ x)
              (token_words (seen ++ b ∷ []) line (at + 1) s.second r len sd.second
              ∙ ap (λ (x : List Token). option_to_list s.second ++ x) q.tokens)
              ∙ sym (append_assoc (option_to_list s.first) (option_to_list s.second) t.tokens));
          ending = ending_same (seen ++ b ∷ []) line s.first (with_token (seen ++ b ∷ []) line s.second r)
              ∙ (ending_same (seen ++ b ∷ []) line s.second r ∙ q.ending);
        }

    from_next : (s : Stepped) → Sound at s
        → ((n : Mode) → start_of n (at + 1) ≤ at + 1 → Same (scan n (seen ++ b ∷ []) (at + 1) (line_after line b) bs)
        (token_scan n (at + 1) (line_after line b) bs))
        → Same (with_token (seen ++ b ∷ []) line s.first (with_token (seen ++ b ∷ []) line s.second (elim s.next [
          | Goes n ↦ scan n (seen ++ b ∷ []) (at + 1) (line_after line b) bs
          | Stops l c ↦ record { words = []; ending = Stops l c }
        ])))
        (in_front (option_to_list s.first ++ option_to_list s.second) (elim s.next [
          | Goes n ↦ token_scan n (at + 1) (line_after line b) bs
          | Stops l c ↦ record { tokens = []; ending = Stops l c }
        ]))
    from_next s sd ih = by_next s.next refl
      where
        by_next : (n : Next) → s.next ≡ n
            → Same (with_token (seen ++ b ∷ []) line s.first (with_token (seen ++ b ∷ []) line s.second (elim s.next [
              | Goes n ↦ scan n (seen ++ b ∷ []) (at + 1) (line_after line b) bs
              | Stops l c ↦ record { words = []; ending = Stops l c }
            ])))
            (in_front (option_to_list s.first ++ option_to_list s.second) (elim s.next [
              | Goes n ↦ token_scan n (at + 1) (line_after line b) bs
              | Stops l c ↦ record { tokens = []; ending = Stops l c }
            ]))
        by_next (Goes n) is = joined s _ _ sd (rw is (ih n (subst (Starts (at + 1)) is sd.next)))
        by_next (Stops l c) is = joined s _ _ sd (rw is (record { tokens = refl; ending = refl }))

-- after a newline nothing is open but a comment
abbrev pub IsClosed : Next → Type 0
IsClosed (Goes mode.Between) = Unit {0}
IsClosed (Goes (mode.Block l)) = Unit {0}
IsClosed (Goes _) = ⊥
IsClosed (Stops l c) = Unit {0}

number_closed : (s : ℕ) (at line : ℕ) (t : Bool) → IsClosed (cond t (after kind.Number s at line 10) (stops line cause.BadNumber)).next
unfolding class_of is_letter is_word
number_closed s at line true = tt
number_closed s at line false = tt

pub at_newline : (m : Mode) (at line : ℕ) → IsClosed (stepped m at line 10).next
unfolding class_of is_source is_letter is_word
at_newline mode.Between at line = tt
at_newline mode.Slash at line = tt
at_newline mode.Line at line = tt
at_newline (mode.Block l) at line = tt
at_newline (mode.Star l) at line = tt
at_newline (mode.Word s) at line = tt
at_newline (mode.Number s d) at line = number_closed s at line (is_whole d)
at_newline (mode.Quote s) at line = tt
at_newline (mode.Text s) at line = tt
at_newline (mode.Escape s) at line = tt

pub last_closed : (bs : List ℕ) (m : Mode) (at line : ℕ) → IsClosed (token_scan m at line (bs ++ 10 ∷ [])).ending
last_closed [] m at line = by_next (stepped m at line 10).next (at_newline m at line)
  where
    by_next : (n : Next) → IsClosed n
        → IsClosed (let r : Tokens =
        elim n [ Goes k ↦ token_scan k (at + 1) (line_after line 10) [] | Stops l c ↦ record { tokens = []; ending = Stops l c } ] in
        r.ending)
    by_next (Goes k) h = h
    by_next (Stops l c) h = tt
last_closed (b ∷ bs) m at line = by_next (stepped m at line b).next (λ k. last_closed bs k (at + 1) (line_after line b))
  where
    by_next : (n : Next) → ((k : Mode) → IsClosed (token_scan k (at + 1) (line_after line b) (bs ++ 10 ∷ [])).ending)
        → IsClosed (let r : Tokens =
        elim n [
          | Goes k ↦ token_scan k (at + 1) (line_after line b) (bs ++ 10 ∷ [])
          | Stops l c ↦
              record { tokens = []; ending = Stops l c }
        ] in r.ending)
    by_next (Goes k) ih = ih k
    by_next (Stops l c) ih = tt

between_closed : (m : Mode) → IsClosed (Goes m) → is_block m ≡ false → m ≡ mode.Between
between_closed mode.Between k h = refl
between_closed (mode.Block l) k h = absurd cc
between_closed mode.Slash k h = absurd k
between_closed mode.Line k h = absurd k
between_closed (mode.Star l) k h = absurd k
between_closed (mode.Word a) k h = absurd k
between_closed (mode.Number a d) k h = absurd k
between_closed (mode.Quote a) k h = absurd k
between_closed (mode.Text a) k h = absurd k
between_closed (mode.Escape a) k h = absurd k

pub are_tokens : (text : List ℕ) (r : Result (Vec Token) SourceFault) → LexesTo r (token_scan mode.Between 0 1 (text ++ 10 ∷ []))
    → IfOk r (λ v. AreTokens text v.items)
are_tokens text (Err f) h = tt
are_tokens text (Ok v) (items, m, ends, open_not) =
    let q = same (text ++ 10 ∷ []) mode.Between [] 0 1 refl (omega arith) in
    let closed : IsClosed (Goes m) = subst IsClosed ends (last_closed text mode.Between 0 1) in
    let whole : (scan mode.Between [] 0 1 (text ++ 10 ∷ [])).ending ≡ Goes mode.Between =
    q.ending ∙ (ends ∙ ap Goes (between_closed m closed open_not)) in
    let lexed = found (text ++ 10 ∷ []) [] 0 1 (scan mode.Between [] 0 1 (text ++ 10 ∷ [])).words refl
    (ap (λ (n : Next). record { words = (scan mode.Between [] 0 1 (text ++ 10 ∷ [])).words; ending = n }) whole) in
    ((scan mode.Between [] 0 1 (text ++ 10 ∷ [])).words, lexed, items ∙ ap (λ (ts : List Token). take (length ts - 1) ts) (sym q.tokens))

-- What are the text's tokens are found.
pub are_found : (text : List ℕ) (r : Result (Vec Token) SourceFault) → LexesTo r (token_scan mode.Between 0 1 (text ++ 10 ∷ []))
    → (tokens : List Token) → AreTokens text tokens → LexedAs tokens r
are_found text r h tokens (ws, lexed, is) = by_result r h
  where
    whole : scan mode.Between [] 0 1 (text ++ 10 ∷ []) ≡ record { words = ws; ending = Goes mode.Between }
    whole = again lexed [] refl

    sames : Same (scan mode.Between [] 0 1 (text ++ 10 ∷ [])) (token_scan mode.Between 0 1 (text ++ 10 ∷ []))
    sames = same (text ++ 10 ∷ []) mode.Between [] 0 1 refl (omega arith)

    listed_words : map token_of ws ≡ (token_scan mode.Between 0 1 (text ++ 10 ∷ [])).tokens
    listed_words = ap (λ (s : Scan). map token_of s.words) (sym whole) ∙ sames.tokens

    ends : (token_scan mode.Between 0 1 (text ++ 10 ∷ [])).ending ≡ Goes mode.Between
    ends = sym sames.ending ∙ ap (λ (s : Scan). s.ending) whole

    by_result : (r : Result (Vec Token) SourceFault) → LexesTo r (token_scan mode.Between 0 1 (text ++ 10 ∷ [])) → LexedAs tokens r
    by_result (Ok v) (items, m, goes, open_not) = items ∙ (ap (λ (ts : List Token). take (length ts - 1) ts) (sym listed_words) ∙ sym is)
    by_result (Err fault.Memory) h = tt
    by_result (Err (fault.At l c)) (inl e) = let g : Stops l c ≡ Goes mode.Between = sym e ∙ ends in absurd cc
    by_result (Err (fault.At l c)) (inr (e, o)) = let g : Goes (mode.Block l) ≡ Goes mode.Between = sym e ∙ ends in absurd cc
