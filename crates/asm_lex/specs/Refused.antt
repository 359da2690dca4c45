-- The line and the cause with which a text that has no tokens is refused.
use Rattle.std.specs.Prelude.{◌≡◌, ℕ, true, false, ◌==◌, List, [], ◌∷◌, ◌++◌, Result, Ok, Err}
use Rattle.std.specs.Global.{Vec}
use Rattle.asm_lex.specs.declared.bytes.Class.TheVariants as class
use Rattle.asm_lex.specs.declared.token.Token.{Token}
use Rattle.asm_lex.specs.declared.token.TokenKind.{TokenKind}
use Rattle.asm_lex.specs.declared.fault.SourceCause.{SourceCause}
use Rattle.asm_lex.specs.declared.fault.SourceCause.TheVariants as cause
use Rattle.asm_lex.specs.declared.fault.SourceFault.{SourceFault}
use Rattle.asm_lex.specs.declared.fault.SourceFault.TheVariants as fault
use Rattle.asm_lex.specs.Bytes.{class_of}
use Rattle.asm_lex.specs.Source.{IsGap, IsToken, lines_after}
use Rattle.asm_lex.specs.Refusals.{is_unclosed, IsWrong}

-- The bytes from this line on are words and what stands between them up to what is wrong, which has this line and cause.
pub data Wrong : ℕ → List ℕ → ℕ → SourceCause → Type 0 where
  gap : {line l : ℕ} {text : List ℕ} {c : SourceCause} (piece rest : List ℕ) → text ≡ piece ++ rest → IsGap piece rest
      → Wrong (lines_after line piece) rest l c → Wrong line text l c
  token : {line l : ℕ} {text : List ℕ} {c : SourceCause} (k : TokenKind) (piece rest : List ℕ) → text ≡ piece ++ rest → IsToken k piece rest
      → Wrong (lines_after line piece) rest l c → Wrong line text l c
  here : {line l : ℕ} {text : List ℕ} {c : SourceCause} (piece rest : List ℕ) (next : ℕ) → text ≡ piece ++ next ∷ rest
      → IsWrong piece next c → l ≡ lines_after line piece → Wrong line text l c
  open_comment : {line : ℕ} {b d : ℕ} {bs : List ℕ} → class_of b ≡ class.Slash → (d == 42) ≡ true → is_unclosed false bs ≡ true
      → Wrong line (b ∷ d ∷ bs) line cause.OpenComment

-- the line and the cause of what is wrong first
abbrev pub IsRefused : List ℕ → ℕ → SourceCause → Type 0
IsRefused text l c = Wrong 1 (text ++ 10 ∷ []) l c

-- a refusal has the line and the cause of what is wrong first
abbrev pub RefusedFor : List ℕ → Result (Vec Token) SourceFault → Type 0
RefusedFor text (Ok v) = Unit {0}
RefusedFor text (Err fault.Memory) = Unit {0}
RefusedFor text (Err (fault.At l c)) = IsRefused text l c

-- the refusal in this line for this cause, unless memory ran out
abbrev pub RefusesAs : {A : Type 0} → ℕ → SourceCause → Result A SourceFault → Type 0
RefusesAs l c (Ok x) = ⊥
RefusesAs l c (Err fault.Memory) = Unit {0}
RefusesAs l c (Err (fault.At k d)) = (k ≡ l) × (d ≡ c)
