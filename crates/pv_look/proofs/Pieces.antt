-- Pieces of a line, one after the other.
use Rattle.std.proofs.Common.{◌≡◌, ℕ, zero, suc, ◌+◌, ◌<◌, ◌≤◌, List, [], ◌∷◌, ◌++◌, length, take, get_or, refl, sym, ap, ◌∙◌, append_assoc, arith}
use Rattle.std.proofs.lemmas.List.Concat.{flat_map-append}
use Rattle.std.proofs.lemmas.List.{append-nil, take_more}
use Rattle.std.specs.Prelude.{codes}
use Rattle.run_trace.specs.Text.{hex2}
use Rattle.sites.specs.Patched.{patch_bytes}
use Rattle.pv_look.specs.Lines.{bytes_text}

pub two_pieces : (line a b r1 r2 : List ℕ) → r1 ≡ line ++ a → r2 ≡ r1 ++ b → r2 ≡ line ++ (a ++ b)
two_pieces line a b r1 r2 p q = q ∙ (ap (λ (l : List ℕ). l ++ b) p ∙ append_assoc line a b)

pub three_pieces : (line a b c r1 r2 r3 : List ℕ) → r1 ≡ line ++ a → r2 ≡ r1 ++ b → r3 ≡ r2 ++ c → r3 ≡ line ++ (a ++ b ++ c)
three_pieces line a b c r1 r2 r3 p q r = two_pieces line (a ++ b) c r2 r3 (two_pieces line a b r1 r2 p q) r

pub four_pieces : (line a b c d r1 r2 r3 r4 : List ℕ) → r1 ≡ line ++ a → r2 ≡ r1 ++ b → r3 ≡ r2 ++ c → r4 ≡ r3 ++ d → r4 ≡ line
    ++ (a ++ b ++ c ++ d)
four_pieces line a b c d r1 r2 r3 r4 p q r s = two_pieces line (a ++ b ++ c) d r3 r4 (three_pieces line a b c r1 r2 r3 p q r) s

-- one byte more
pub one_byte : (xs : List ℕ) (b : ℕ) → bytes_text (xs ++ b ∷ []) ≡ bytes_text xs ++ (codes " " ++ hex2 b)
unfolding bytes_text
one_byte xs b = flat_map-append (λ n. codes " " ++ hex2 n) xs (b ∷ [])

pub no_bytes : (line : List ℕ) → line ≡ line ++ bytes_text []
unfolding bytes_text
no_bytes line = sym (append-nil line)

pub more_bytes : (xs : List ℕ) (i : ℕ) → i < length xs → bytes_text (take (i + 1) xs) ≡ bytes_text (take i xs) ++ codes " "
    ++ hex2 (get_or xs i 0)
more_bytes xs i lt =
    ap bytes_text (take_more xs i 0 lt)
    ∙ (one_byte (take i xs) (get_or xs i 0) ∙ sym (append_assoc (bytes_text (take i xs)) (codes " ") (hex2 (get_or xs i 0))))

-- what a site of up to eleven bytes is patched to is a front of what one of eleven bytes is
pub patched_front : (n : ℕ) → 1 ≤ n → n ≤ 11 → take n (233 ∷ 244 ∷ 244 ∷ 244 ∷ 244 ∷ 244 ∷ 244 ∷ 244 ∷ 244 ∷ 244 ∷ 244 ∷ []) ≡ patch_bytes n
patched_front zero some few = absurd (omega arith)
patched_front (suc zero) some few = refl
patched_front (suc (suc zero)) some few = refl
patched_front (suc (suc (suc zero))) some few = refl
patched_front (suc (suc (suc (suc zero)))) some few = refl
patched_front (suc (suc (suc (suc (suc zero))))) some few = refl
patched_front (suc (suc (suc (suc (suc (suc zero)))))) some few = refl
patched_front (suc (suc (suc (suc (suc (suc (suc zero))))))) some few = refl
patched_front (suc (suc (suc (suc (suc (suc (suc (suc zero)))))))) some few = refl
patched_front (suc (suc (suc (suc (suc (suc (suc (suc (suc zero))))))))) some few = refl
patched_front (suc (suc (suc (suc (suc (suc (suc (suc (suc (suc zero)))))))))) some few = refl
patched_front (suc (suc (suc (suc (suc (suc (suc (suc (suc (suc (suc zero))))))))))) some few = refl
patched_front (suc (suc (suc (suc (suc (suc (suc (suc (suc (suc (suc (suc n)))))))))))) some few = absurd (omega arith)
