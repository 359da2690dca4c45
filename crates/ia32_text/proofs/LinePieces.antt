-- Pieces that are put after a line, one after the other.
use Rattle.std.proofs.Common.{◌≡◌, ℕ, ◌+◌, ◌<◌, List, [], ◌∷◌, ◌++◌, length, take, get_or, sym, ap, ◌∙◌, append_assoc}
use Rattle.std.proofs.lemmas.List.Concat.{flat_map-append}
use Rattle.std.proofs.lemmas.List.{append-nil, take_more}
use Rattle.std.specs.List.{flat_map}
use Rattle.std.specs.Prelude.{codes}
use Rattle.run_trace.specs.Text.{hex2}
use Rattle.ia32_text.specs.Numbers.{bytes_text}

pub two_pieces : (line a b r1 r2 : List ℕ) → r1 ≡ line ++ a → r2 ≡ r1 ++ b → r2 ≡ line ++ (a ++ b)
two_pieces line a b r1 r2 p q = q ∙ (ap (λ (l : List ℕ). l ++ b) p ∙ append_assoc line a b)

pub three_pieces : (line a b c r1 r2 r3 : List ℕ) → r1 ≡ line ++ a → r2 ≡ r1 ++ b → r3 ≡ r2 ++ c → r3 ≡ line ++ (a ++ b ++ c)
three_pieces line a b c r1 r2 r3 p q r = two_pieces line (a ++ b) c r2 r3 (two_pieces line a b r1 r2 p q) r

pub four_pieces : (line a b c d r1 r2 r3 r4 : List ℕ) → r1 ≡ line ++ a → r2 ≡ r1 ++ b → r3 ≡ r2 ++ c → r4 ≡ r3 ++ d → r4 ≡ line
    ++ (a ++ b ++ c ++ d)
four_pieces line a b c d r1 r2 r3 r4 p q r s = two_pieces line (a ++ b ++ c) d r3 r4 (three_pieces line a b c r1 r2 r3 p q r) s

pub five_pieces : (line a b c d e r1 r2 r3 r4 r5 : List ℕ) → r1 ≡ line ++ a → r2 ≡ r1 ++ b → r3 ≡ r2 ++ c → r4 ≡ r3 ++ d → r5 ≡ r4 ++ e
    → r5 ≡ line ++ (a ++ b ++ c ++ d ++ e)
five_pieces line a b c d e r1 r2 r3 r4 r5 p q r s t =
    two_pieces line (a ++ b ++ c ++ d) e r4 r5 (four_pieces line a b c d r1 r2 r3 r4 p q r s) t

-- ---- a piece for each number of a list

pub none_mapped : (piece : ℕ → List ℕ) (line : List ℕ) → line ≡ line ++ flat_map piece []
none_mapped piece line = sym (append-nil line)

-- the next one's after those of the first i
pub next_mapped : (piece : ℕ → List ℕ) (xs : List ℕ) (i : ℕ) → i < length xs
    → flat_map piece (take (i + 1) xs) ≡ flat_map piece (take i xs) ++ piece (get_or xs i 0)
next_mapped piece xs i inside =
    ap (flat_map piece) (take_more xs i 0 inside)
    ∙ (flat_map-append piece (take i xs) (get_or xs i 0 ∷ [])
    ∙ ap (λ (l : List ℕ). flat_map piece (take i xs) ++ l) (append-nil (piece (get_or xs i 0))))

-- ---- bytes, each after a blank

pub no_bytes : (line : List ℕ) → line ≡ line ++ bytes_text []
unfolding bytes_text
no_bytes line = none_mapped (λ b. codes " " ++ hex2 b) line

pub more_bytes : (xs : List ℕ) (i : ℕ) → i < length xs
    → bytes_text (take (i + 1) xs) ≡ bytes_text (take i xs) ++ codes " " ++ hex2 (get_or xs i 0)
unfolding bytes_text
more_bytes xs i inside =
    next_mapped (λ b. codes " " ++ hex2 b) xs i inside
    ∙ sym (append_assoc (bytes_text (take i xs)) (codes " ") (hex2 (get_or xs i 0)))
