-- Four bytes that are read as a number: what stands in front is as long, and others are read in their place.
use Rattle.std.proofs.Common.{◌≡◌, ℕ, ◌+◌, ◌<◌, ◌*◌, ◌^◌, List, [], ◌∷◌, ◌++◌, length, take, drop, Ok, refl, sym, ap, ◌∙◌, arith}
use Rattle.std.specs.Int.{w32, from_le_bytes, to_le_bytes}
use Rattle.std.proofs.lemmas.Nat.{from_le_bytes-to_le_bytes_4}
use Rattle.guest_ram.specs.Bytes.{part, with_part, word32, with_word32}
use Rattle.std.proofs.lemmas.List.{append-nil, length-append}
use Rattle.ia32_rows.specs.Reader.{◌>>=◌, success, word_at, long_at}
use Rattle.ia32_rows.specs.Spells.{AreBytes}
use Rattle.ia32_rows.proofs.Readers.{read, same_read, and_then_ok, word_reads, long_reads}
use Rattle.ia32_rows.proofs.Pieces.{whole_then, whole}

pub two_bytes : (bytes : List ℕ) (n : ℕ) → word_at bytes ≡ Ok (n, []) → length bytes ≡ 2
unfolding word_at
two_bytes [] n e = absurd cc
two_bytes (a ∷ []) n e = absurd cc
two_bytes (a ∷ b ∷ []) n e = refl
two_bytes (a ∷ b ∷ c ∷ bytes) n e = let s = same_read (a + 256 * b) n (c ∷ bytes) [] e in let t : (c ∷ bytes) ≡ [] = s.1 in absurd cc

pub four_bytes : (bytes : List ℕ) (n : ℕ) → long_at bytes ≡ Ok (n, []) → length bytes ≡ 4
unfolding long_at
four_bytes bytes n e =
    let r = and_then_ok (word_at bytes) (λ low. word_at >>= λ high. success (low + 65536 * high)) n [] e in
    let q = and_then_ok (word_at r.1) (λ high. success (r.0 + 65536 * high)) n [] r.3 in
    let t = word_reads.takes bytes r.0 r.1 r.2 in
    let low = two_bytes t.front r.0 (ap word_at (sym (append-nil t.front)) ∙ t.again []) in
    let end = same_read (r.0 + 65536 * q.0) n q.1 [] q.3 in
    let high = two_bytes r.1 q.0 (q.2 ∙ ap (read q.0) end.1) in
    ap length t.parts ∙ length-append t.front r.1 ∙ omega arith

-- four bytes that are a number, the lowest first
pub record IsWord (word : List ℕ) (n : ℕ) : Type 0 where
  pub fit : AreBytes word
  pub is : long_at word ≡ Ok (n, [])

-- the four bytes at a place, and the bytes with four others there
abbrev pub word_in : List ℕ → ℕ → List ℕ
word_in bytes at = take 4 (drop at bytes)

abbrev pub filled : List ℕ → ℕ → List ℕ → List ℕ
filled bytes at word = take at bytes ++ (word ++ drop (at + 4) bytes)

-- the bytes of a number, and the number of bytes
abbrev read_long : ℕ → Rattle.ia32_rows.specs.Reader.Reading ℕ
read_long n = Ok (n, [])

long_is : (a b c d : ℕ) → long_at (a ∷ b ∷ c ∷ d ∷ []) ≡ Ok (from_le_bytes w32 (a ∷ b ∷ c ∷ d ∷ []), [])
unfolding long_at word_at
long_is a b c d = ap read_long (sums a b c d) where
  sums : (a b c d : ℕ) → (a + 256 * b) + 65536 * (c + 256 * d) ≡ from_le_bytes w32 (a ∷ b ∷ c ∷ d ∷ [])
  sums a b c d = omega arith

pub long_of : (word : List ℕ) → length word ≡ 4 → long_at word ≡ Ok (from_le_bytes w32 word, [])
long_of [] e = absurd (omega arith)
long_of (a ∷ []) e = absurd (omega arith)
long_of (a ∷ b ∷ []) e = absurd (omega arith)
long_of (a ∷ b ∷ c ∷ []) e = absurd (omega arith)
long_of (a ∷ b ∷ c ∷ d ∷ []) e = long_is a b c d
long_of (a ∷ b ∷ c ∷ d ∷ f ∷ word) e = absurd (omega arith)

pub word_of : (n : ℕ) → n < 2 ^ 32 → IsWord (to_le_bytes w32 n) n
word_of n lt = record {
  fit = fits n;
  is = long_of (to_le_bytes w32 n) refl ∙ ap read_long (from_le_bytes-to_le_bytes_4 n lt);
} where
  fits : (n : ℕ) → AreBytes (to_le_bytes w32 n)
  fits n = (omega arith, (omega arith, (omega arith, (omega arith, tt))))

pub filled_word : (bytes : List ℕ) (at n : ℕ) → with_word32 bytes at n ≡ filled bytes at (to_le_bytes w32 n)
unfolding with_word32 with_part
filled_word bytes at n = refl

pub word_there : (bytes : List ℕ) (at n : ℕ) → IsWord (word_in bytes at) n → word32 bytes at ≡ n
unfolding word32 part
word_there bytes at n w =
    let four = four_bytes (word_in bytes at) n w.is in
    (same_read (from_le_bytes w32 (word_in bytes at)) n [] [] (sym (long_of (word_in bytes at) four) ∙ w.is)).0

-- what is read to its end is read in front of anything
pub long_then : (word more : List ℕ) (n : ℕ) → long_at word ≡ Ok (n, []) → long_at (word ++ more) ≡ Ok (n, more)
long_then word more n e = whole_then 4 long_at long_reads word more n e

-- the four bytes that were read
pub record Long (bytes : List ℕ) (n : ℕ) (rest : List ℕ) : Type 0 where
  pub word : List ℕ
  pub parts : bytes ≡ word ++ rest
  pub is : long_at word ≡ Ok (n, [])
  pub four : length word ≡ 4

pub long_front : (bytes : List ℕ) (n : ℕ) (rest : List ℕ) → long_at bytes ≡ Ok (n, rest) → Long bytes n rest
long_front bytes n rest e =
    let t = long_reads.takes bytes n rest e in
    let is = whole 4 long_at bytes n rest t in
    record { word = t.front; parts = t.parts; is = is; four = four_bytes t.front n is }
