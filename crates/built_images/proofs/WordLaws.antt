-- Words of bytes that stand among others.
use Rattle.std.proofs.Common.{◌≡◌, ℕ, suc, ◌+◌, ◌≤◌, List, [], ◌∷◌, ◌++◌, length, take, drop, sym, ap, ◌∙◌, append_assoc, arith}
use Rattle.std.specs.Int.{w32, from_le_bytes, to_le_bytes}
use Rattle.std.proofs.lemmas.List.{length-drop, take-append-le, drop-append-le}
use Rattle.guest_ram.specs.Bytes.{part, with_part, word32, with_word32}

one_in_front : (x : ℕ) (m bs : List ℕ) (a : ℕ) → with_part (x ∷ m) (suc a) bs ≡ x ∷ with_part m a bs
unfolding with_part
one_in_front x m bs a = let e : suc a + length bs ≡ suc (a + length bs) =
    omega arith in ap (λ n. x ∷ (take a m ++ (bs ++ drop n (x ∷ m)))) e

written_behind : (pre m bs : List ℕ) (k : ℕ) → with_part (pre ++ m) (length pre + k) bs ≡ pre ++ with_part m k bs
written_behind [] m bs k = let e : 0 + k ≡ k = omega arith in ap (λ n. with_part m n bs) e
written_behind (x ∷ pre) m bs k =
    let e : suc (length pre) + k ≡ suc (length pre + k) = omega arith in
    ap (λ n. with_part (x ∷ (pre ++ m)) n bs) e ∙ one_in_front x (pre ++ m) bs (length pre + k)
    ∙ ap (λ xs. x ∷ xs) (written_behind pre m bs k)

written_before : (b tail bs : List ℕ) (k : ℕ) → k + length bs ≤ length b → with_part (b ++ tail) k bs ≡ with_part b k bs ++ tail
unfolding with_part
written_before b tail bs k le =
    let in_b : k ≤ length b = omega arith in
    ap (λ xs. xs ++ (bs ++ drop (k + length bs) (b ++ tail))) (take-append-le k b tail in_b)
    ∙ ap (λ xs. take k b ++ (bs ++ xs)) (drop-append-le (k + length bs) b tail le)
    ∙ ap (λ xs. take k b ++ xs) (sym (append_assoc bs (drop (k + length bs) b) tail))
    ∙ sym (append_assoc (take k b) (bs ++ drop (k + length bs) b) tail)

pub written_among : (pre b tail : List ℕ) (k n : ℕ) → k + 4 ≤ length b → with_word32 (pre ++ (b ++ tail)) (length pre + k) n ≡ pre
    ++ (with_word32 b k n ++ tail)
unfolding with_word32
written_among pre b tail k n le =
    written_behind pre (b ++ tail) (to_le_bytes w32 n) k ∙ ap (λ xs. pre ++ xs) (written_before b tail (to_le_bytes w32 n) k le)

drop_behind : (pre m : List ℕ) (k : ℕ) → drop (length pre + k) (pre ++ m) ≡ drop k m
drop_behind [] m k = let e : 0 + k ≡ k = omega arith in ap (λ n. drop n m) e
drop_behind (x ∷ pre) m k =
    let e : suc (length pre) + k ≡ suc (length pre + k) = omega arith in
    ap (λ n. drop n (x ∷ (pre ++ m))) e ∙ drop_behind pre m k

pub read_among : (pre b tail : List ℕ) (k : ℕ) → k + 4 ≤ length b → word32 (pre ++ (b ++ tail)) (length pre + k) ≡ word32 b k
unfolding word32 part
read_among pre b tail k le =
    let in_b : k ≤ length b = omega arith in
    let four : 4 ≤ length (drop k b) = omega (arith, length-drop k b) in
    ap (λ xs. from_le_bytes w32 (take 4 xs)) (drop_behind pre (b ++ tail) k ∙ drop-append-le k b tail in_b)
    ∙ ap (from_le_bytes w32) (take-append-le 4 (drop k b) tail four)
