-- What is wrong with a text that has no tokens, in its own words: apart from how it is found.
use Rattle.std.specs.Prelude.{◌≡◌, ℕ, Bool, true, false, ◌&&◌, not, ◌==◌, List, [], ◌∷◌}
use Rattle.std.specs.List.{list_all}
use Rattle.asm_lex.specs.declared.bytes.Class.TheVariants as class
use Rattle.asm_lex.specs.declared.fault.SourceCause.{SourceCause}
use Rattle.asm_lex.specs.declared.fault.SourceCause.TheVariants as cause
use Rattle.asm_lex.specs.Bytes.{class_of, is_source, is_word, is_escape}
use Rattle.asm_lex.specs.Source.{is_inside_line, is_numeral}

-- bytes after `/*`, or after a star in a comment, in which no `*/` stands
abbrev pub is_unclosed : Bool → List ℕ → Bool
is_unclosed star [] = true
is_unclosed star (b ∷ bs) = (is_source b && not (star && (b == 47))) && is_unclosed (b == 42) bs

-- Bytes after a string's first quote, or after a backslash in it, that don't end it; and whether their last is such a backslash.
abbrev pub IsInString : Bool → List ℕ → Bool → Type 0
IsInString escaped [] last = escaped ≡ last
IsInString false (b ∷ bs) last = (is_inside_line b ≡ true) × ((b == 34) ≡ false) × IsInString (b == 92) bs last
IsInString true (b ∷ bs) last = (is_escape b ≡ true) × IsInString false bs last

-- After these bytes, which begin a token or a comment, the next byte has this cause.
pub data IsWrong : List ℕ → ℕ → SourceCause → Type 0 where
  foreign : {next : ℕ} → class_of next ≡ class.Foreign → IsWrong [] next cause.NotAscii
  other : {next : ℕ} → class_of next ≡ class.Other → IsWrong [] next cause.BadCharacter
  slash : {b next : ℕ} → class_of b ≡ class.Slash → (next == 42) ≡ false → IsWrong (b ∷ []) next cause.BadCharacter
  in_line : {b next : ℕ} {bs : List ℕ} → class_of b ≡ class.Hash → list_all is_inside_line bs ≡ true → is_source next ≡ false
      → IsWrong (b ∷ bs) next cause.NotAscii
  in_comment : {b c next : ℕ} {bs : List ℕ} → class_of b ≡ class.Slash → (c == 42) ≡ true → is_unclosed false bs ≡ true
      → is_source next ≡ false → IsWrong (b ∷ c ∷ bs) next cause.NotAscii
  number : {b next : ℕ} {bs : List ℕ} → class_of b ≡ class.Digit → list_all is_word bs ≡ true → is_word next ≡ false
      → is_numeral (b ∷ bs) ≡ false → IsWrong (b ∷ bs) next cause.BadNumber
  character : {b next : ℕ} → class_of b ≡ class.SingleQuote → is_inside_line next ≡ false → IsWrong (b ∷ []) next cause.BadNumber
  in_string : {b next : ℕ} {bs : List ℕ} → class_of b ≡ class.DoubleQuote → IsInString false bs false → is_source next ≡ false
      → IsWrong (b ∷ bs) next cause.NotAscii
  open_string : {b next : ℕ} {bs : List ℕ} (escaped : Bool) → class_of b ≡ class.DoubleQuote → IsInString false bs escaped
      → (next == 10) ≡ true → IsWrong (b ∷ bs) next cause.OpenString
  escape : {b next : ℕ} {bs : List ℕ} → class_of b ≡ class.DoubleQuote → IsInString false bs true → (next == 10) ≡ false
      → is_escape next ≡ false → IsWrong (b ∷ bs) next cause.BadEscape
