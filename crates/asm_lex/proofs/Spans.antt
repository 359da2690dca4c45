-- The tokens of a text rise within it.
use Rattle.std.proofs.Common.{◌≡◌, ℕ, ◌+◌, ◌-◌, ◌≤◌, List, [], ◌∷◌, ◌++◌, length, take, map, Result, Ok, Err, sym, ap, subst, arith}
use Rattle.std.specs.Prelude.{IfOk}
use Rattle.std.specs.Global.{Vec}
use Rattle.std.proofs.lemmas.List.{length-append}
use Rattle.asm_lex.specs.declared.fault.SourceFault.{SourceFault}
use Rattle.asm_lex.specs.declared.token.Token.{Token}
use Rattle.asm_lex.specs.declared.token.TokenKind.{TokenKind}
use Rattle.asm_lex.specs.Words.{Word}
use Rattle.asm_lex.specs.Scans.{token_of}
use Rattle.asm_lex.specs.Source.{IsToken, Lexed}
use Rattle.asm_lex.specs.Tokens.{token_scan, between, LexesTo, AreTokens}
use Rattle.asm_lex.specs.Spans.{AreSpans}
use Rattle.asm_lex.proofs.TextTokens.{are_tokens}

earlier : (ts : List Token) (a b n : ℕ) → a ≤ b → AreSpans b n ts → AreSpans a n ts
earlier [] a b n h s = tt
earlier (t ∷ ts) a b n h s = (omega (arith, s.0), s.1, s.2, s.3)

token_length : {k : TokenKind} {piece rest : List ℕ} → IsToken k piece rest → 1 ≤ length piece
token_length (IsToken.end k) = omega arith
token_length (IsToken.mark k) = omega arith
token_length (IsToken.name k h b) = omega arith
token_length (IsToken.number k h b c) = omega arith
token_length (IsToken.character k h) = omega arith
token_length (IsToken.string k h) = omega arith

spans : {at line : ℕ} {text : List ℕ} {ws : List Word} → Lexed at line text ws → (n : ℕ) → at + length text ≤ n
    → AreSpans at n (map token_of ws)
spans Lexed.none n h = tt
spans {at} {line} {text} {ws} (Lexed.gap piece rest e g l) n h =
    let len = ap length e in
    earlier (map token_of ws) at (at + length piece) n (omega arith) (spans l n (omega (arith, len, length-append piece rest)))
spans {at} (Lexed.token k piece rest e i l) n h =
    let len = ap length e in
    (omega arith, token_length i, omega (arith, len, length-append piece rest), spans l n (omega (arith, len, length-append piece rest)))

-- without the last
but_last : (t : Token) (ts : List Token) (a n : ℕ) → AreSpans a (n + 1) (t ∷ ts) → AreSpans a n (take (length ts) (t ∷ ts))
but_last t [] a n s = tt
but_last t (u ∷ us) a n s = (s.0, s.1, omega (arith, s.3.0, s.3.1, s.3.2), but_last u us (t.at + t.len) n s.3)

fewer : (ts : List Token) (a n : ℕ) → AreSpans a (n + 1) ts → AreSpans a n (take (length ts - 1) ts)
fewer [] a n s = tt
fewer (t ∷ ts) a n s =
    let count : length (t ∷ ts) - 1 ≡ length ts = omega arith in
    subst (λ (k : ℕ). AreSpans a n (take k (t ∷ ts))) (sym count) (but_last t ts a n s)

pub are_spans : (text : List ℕ) (r : Result (Vec Token) SourceFault) → LexesTo r (token_scan between 0 1 (text ++ 10 ∷ []))
    → IfOk r (λ v. AreSpans 0 (length text) v.items)
are_spans text (Err f) h = tt
are_spans text (Ok v) h = by_tokens (are_tokens text (Ok v) h)
  where
    by_tokens : AreTokens text v.items → AreSpans 0 (length text) v.items
    by_tokens (ws, lexed, is) =
        subst (AreSpans 0 (length text)) (sym is)
        (fewer (map token_of ws) 0 (length text) (spans lexed (length text + 1) (omega (arith, length-append text (10 ∷ [])))))
