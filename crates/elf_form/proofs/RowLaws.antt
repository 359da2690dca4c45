-- Numbers of four bytes, one after the other, and parts of lists that were joined.
use Rattle.std.proofs.Common.{◌≡◌, ℕ, zero, suc, ◌+◌, ◌*◌, ◌<◌, ◌^◌, List, [], ◌∷◌, ◌++◌, length, get_or, take, drop, refl, sym, ap, ◌∙◌, arith, append_assoc}
use Rattle.std.proofs.lemmas.List.{length-append, take_at, drop_at, drop-drop}
use Rattle.std.proofs.lemmas.Nat.{from_le_bytes-to_le_bytes_4}
use Rattle.std.specs.Int.{w32, from_le_bytes, to_le_bytes}
use Rattle.guest_ram.specs.Bytes.{part, word32}
use Rattle.elf_form.specs.Output.{longs}

-- the part that stands between two others
pub part-middle : (a b c : List ℕ) (n k : ℕ) → length a ≡ n → length b ≡ k → part (a ++ (b ++ c)) n k ≡ b
unfolding part
part-middle a b c n k la lb = ap (take k) (drop_at a (b ++ c) n la) ∙ take_at b c k lb

-- a number after other bytes
pub word32-behind : (a b : List ℕ) (n k : ℕ) → length a + k ≡ n → word32 (a ++ b) n ≡ word32 b k
unfolding word32 part
word32-behind a b n k e =
    let split : drop n (a ++ b) ≡ drop k b = rw (← e) (sym (drop-drop k (length a) (a ++ b)) ∙ ap (drop k) (drop_at a b (length a) refl)) in
    ap (λ (x : List ℕ). from_le_bytes w32 (take 4 x)) split

-- the number at the front
pub word32-front : (v : ℕ) (rest : List ℕ) → v < 2 ^ 32 → word32 (to_le_bytes w32 v ++ rest) 0 ≡ v
unfolding word32 part
word32-front v rest lt = from_le_bytes-to_le_bytes_4 v lt

-- the number k of a row
pub row_word : (ns after : List ℕ) (k : ℕ) → k < length ns → get_or ns k 0 < 2 ^ 32 → word32 (longs ns ++ after) (4 * k) ≡ get_or ns k 0
row_word [] after k lt small = absurd (omega arith)
row_word (n ∷ ns) after zero lt small =
    ap (λ (x : List ℕ). word32 x 0) (append_assoc (to_le_bytes w32 n) (longs ns) after) ∙ word32-front n (longs ns ++ after) small
row_word (n ∷ ns) after (suc k) lt small =
    ap (λ (x : List ℕ). word32 x (4 * suc k)) (append_assoc (to_le_bytes w32 n) (longs ns) after)
    ∙ word32-behind (to_le_bytes w32 n) (longs ns ++ after) (4 * suc k) (4 * k) (omega arith)
    ∙ row_word ns after k (omega arith) small

-- the number k of a row that stands after other bytes
pub row_behind : (before ns after : List ℕ) (k at : ℕ) → k < length ns → get_or ns k 0 < 2 ^ 32 → length before + 4 * k ≡ at
    → word32 (before ++ (longs ns ++ after)) at ≡ get_or ns k 0
row_behind before ns after k at lt small e = word32-behind before (longs ns ++ after) at (4 * k) e ∙ row_word ns after k lt small

pub length-longs : (ns : List ℕ) → length (longs ns) ≡ 4 * length ns
length-longs [] = refl
length-longs (n ∷ ns) = omega (arith, length-append (to_le_bytes w32 n) (longs ns), length-longs ns)
