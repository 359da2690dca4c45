-- Decimal numbers byte by byte.
use Rattle.std.proofs.Common.{◌≡◌, ℕ, ◌+◌, ◌-◌, ◌*◌, ◌<◌, ◌≤◌, Bool, true, false, Some, None, Option, List, [], ◌∷◌, length, get_or, drop, refl, ap, ◌∙◌, arith, inl, inr}
use Rattle.std.specs.Prelude.{◌&&◌, nat_le, if◌then◌else◌}
use Rattle.std.proofs.lemmas.Bool.{le-leb}
use Rattle.std.proofs.lemmas.List.{drop_all, drop_more}
use Rattle.std.specs.List.{list_all}
use Rattle.std.proofs.lemmas.Bool.Decides.{leb_tells}
use Rattle.std.specs.Char.{is_ascii_digit}
use Rattle.text_lines.specs.Numbers.{decimal_after, number_upto}

-- the number that a word says after the digits that said n
unfoldable pub number_after : ℕ → ℕ → List ℕ → Option ℕ
number_after limit n word =
    if list_all is_ascii_digit word && nat_le (decimal_after n word) limit then Some (decimal_after n word) else None

pub number_whole : (limit : ℕ) (word : List ℕ) → number_after limit 0 word ≡ number_upto limit word
unfolding number_after number_upto
number_whole limit word = refl

digit_here : (limit n b : ℕ) (rest : List ℕ) → is_ascii_digit b ≡ true →
    number_after limit n (b ∷ rest) ≡ number_after limit (10 * n + (b - 48)) rest
unfolding number_after
digit_here limit n b rest h = rw h refl

other_here : (limit n b : ℕ) (rest : List ℕ) → is_ascii_digit b ≡ false → number_after limit n (b ∷ rest) ≡ None
unfolding number_after
other_here limit n b rest h = rw h refl

grows : (n : ℕ) (rest : List ℕ) → n ≤ decimal_after n rest
grows n [] = omega arith
grows n (b ∷ rest) = omega (arith, grows (10 * n + (b - 48)) rest)

none_of : (a b : Bool) (n : ℕ) → b ≡ false → (if a && b then Some n else None) ≡ None
none_of true b n h = rw h refl
none_of false b n h = refl

pub too_large : (limit n : ℕ) (rest : List ℕ) → limit < n → number_after limit n rest ≡ None
unfolding number_after
too_large limit n rest h = elim (leb_tells (decimal_after n rest) limit) [
  | inl (is, low) ↦ absurd (omega (arith, grows n rest))
  | inr (isnt, high) ↦ none_of (list_all is_ascii_digit rest) (nat_le (decimal_after n rest) limit) (decimal_after n rest) isnt
]

-- a loop's step at a digit
pub digit_step : (limit n : ℕ) (word : List ℕ) (i : ℕ) → i < length word → is_ascii_digit (get_or word i 0) ≡ true →
    number_after limit n (drop i word) ≡ number_after limit (10 * n + (get_or word i 0 - 48)) (drop (i + 1) word)
digit_step limit n word i h is =
    ap (number_after limit n) (drop_more word i 0 h) ∙ digit_here limit n (get_or word i 0) (drop (i + 1) word) is

-- and at another byte
pub other_step : (limit n : ℕ) (word : List ℕ) (i : ℕ) → i < length word → is_ascii_digit (get_or word i 0) ≡ false →
    number_after limit n (drop i word) ≡ None
other_step limit n word i h is =
    ap (number_after limit n) (drop_more word i 0 h) ∙ other_here limit n (get_or word i 0) (drop (i + 1) word) is

pub number_end : (limit n : ℕ) (word : List ℕ) (i : ℕ) → length word ≤ i → n ≤ limit → number_after limit n (drop i word) ≡ Some n
unfolding number_after
number_end limit n word i h low = rw (drop_all i word h, le-leb n limit low) refl
