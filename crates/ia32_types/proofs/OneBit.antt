-- What the bits are of a number with one bit made anew.
use Rattle.std.proofs.Common.{◌≡◌, ℕ, suc, ◌+◌, ◌-◌, ◌*◌, ◌/◌, ◌%◌, ◌^◌, ◌<◌, ◌≤◌, ◌≢◌, Bool, true, false, arith, sym, ap, ◌∙◌, inl, inr, subst}
use Rattle.std.specs.Prelude.{◌==◌}
use Rattle.std.specs.Int.Bits.{bit_and, bit_or, or_add_and}
use Rattle.std.proofs.lemmas.Nat.{and-not, and_comm, and_le_l, one_shl, pow_below, pow_pos, mod_below, shr_split}
use Rattle.std.proofs.lemmas.Nat.Bits.{and_pow, bit_at_cat_low, bit_at_cat_high, bit_at-suc, bit_at_lowest, bit_at-lt, same_from_bits}
use Rattle.std.specs.Int.{bit_at}
use Rattle.std.proofs.lemmas.Bool.{cases_order}
use Rattle.ia32_types.specs.Bits.{bit, worth, with_bit}

-- the bits above, the bit itself and the bits below
parts : (n at : ℕ) (b : Bool) → with_bit n at b ≡ (n / 2 ^ at / 2 * 2 + worth b) * 2 ^ at + n % 2 ^ at
parts n at b =
    let whole = shr_split n at in
    let half : n / 2 ^ at ≡ n / 2 ^ at / 2 * 2 + n / 2 ^ at % 2 = omega arith in
    let times : n / 2 ^ at * 2 ^ at ≡ n / 2 ^ at / 2 * 2 * 2 ^ at + n / 2 ^ at % 2 * 2 ^ at =
    ap (λ (x : ℕ). x * 2 ^ at) half ∙ omega arith in
    omega (arith, whole, times)

below : (n at : ℕ) → n % 2 ^ at < 2 ^ at
below n at = mod_below n (2 ^ at) (pow_pos at)

worth_bit : (b : Bool) (m : ℕ) → (m * 2 + worth b) % 2 ≡ worth b
worth_bit true m = omega arith
worth_bit false m = omega arith

worth_half : (b : Bool) (m : ℕ) → (m * 2 + worth b) / 2 ≡ m
worth_half true m = omega arith
worth_half false m = omega arith

at_same : (n at : ℕ) (b : Bool) → bit_at (with_bit n at b) at ≡ worth b
at_same n at b =
    let none : at - at ≡ 0 = omega arith in
    ap (λ (x : ℕ). bit_at x at) (parts n at b)
    ∙ bit_at_cat_high (n / 2 ^ at / 2 * 2 + worth b) at (n % 2 ^ at) at (below n at) (omega arith)
    ∙ ap (λ (x : ℕ). bit_at (n / 2 ^ at / 2 * 2 + worth b) x) none
    ∙ bit_at_lowest (n / 2 ^ at / 2 * 2 + worth b) ∙ worth_bit b (n / 2 ^ at / 2)

at_lower : (n at i : ℕ) (b : Bool) → i < at → bit_at (with_bit n at b) i ≡ bit_at n i
at_lower n at i b h =
    ap (λ (x : ℕ). bit_at x i) (parts n at b)
    ∙ bit_at_cat_low (n / 2 ^ at / 2 * 2 + worth b) at (n % 2 ^ at) i h
    ∙ sym (bit_at_cat_low (n / 2 ^ at) at (n % 2 ^ at) i h)
    ∙ ap (λ (x : ℕ). bit_at x i) (shr_split n at)

at_upper : (n at j : ℕ) (b : Bool) → bit_at (with_bit n at b) (suc (at + j)) ≡ bit_at n (suc (at + j))
at_upper n at j b =
    let up : at ≤ suc (at + j) = omega arith in
    let off : suc (at + j) - at ≡ suc j = omega arith in
    let high = n / 2 ^ at / 2 * 2 + worth b in
    ap (λ (x : ℕ). bit_at x (suc (at + j))) (parts n at b)
    ∙ bit_at_cat_high high at (n % 2 ^ at) (suc (at + j)) (below n at) up
    ∙ ap (λ (x : ℕ). bit_at high x) off
    ∙ bit_at-suc high j
    ∙ ap (λ (x : ℕ). bit_at x j) (worth_half b (n / 2 ^ at / 2))
    ∙ sym (bit_at-suc (n / 2 ^ at) j)
    ∙ ap (λ (x : ℕ). bit_at (n / 2 ^ at) x) (sym off)
    ∙ sym (bit_at_cat_high (n / 2 ^ at) at (n % 2 ^ at) (suc (at + j)) (below n at) up)
    ∙ ap (λ (x : ℕ). bit_at x (suc (at + j))) (shr_split n at)

at_other : (n at i : ℕ) (b : Bool) → i ≢ at → bit_at (with_bit n at b) i ≡ bit_at n i
at_other n at i b ne = elim (cases_order i at) [
  | inl eq ↦ absurd (ne eq)
  | inr rest ↦ elim rest [
    | inl lt ↦ at_lower n at i b lt
    | inr gt ↦
        let e : i ≡ suc (at + (i - suc at)) = omega arith in
        subst (λ (x : ℕ). bit_at (with_bit n at b) x ≡ bit_at n x) (sym e) (at_upper n at (i - suc at) b)
  ]
]

-- the bit that was made, and the others
pub bit_same : (n at : ℕ) (b : Bool) → bit (with_bit n at b) at ≡ b
bit_same n at true = ap (λ (x : ℕ). x == 1) (at_same n at true)
bit_same n at false = ap (λ (x : ℕ). x == 1) (at_same n at false)

pub bit_other : (n at i : ℕ) (b : Bool) → i ≢ at → bit (with_bit n at b) i ≡ bit n i
bit_other n at i b ne = ap (λ (x : ℕ). x == 1) (at_other n at i b ne)

-- setting and clearing by masks
pub set_is : (n at : ℕ) → at < 8 → bit_or n (1 * 2 ^ at % 2 ^ 8) ≡ with_bit n at true
set_is n at h = rw (one_shl at 8 h) (omega (arith, or_add_and n (2 ^ at), and_pow n at, and_le_l n (2 ^ at)))

pub cleared_is : (n at : ℕ) → n < 2 ^ 8 → at < 8 → bit_and n (2 ^ 8 - 1 - 1 * 2 ^ at % 2 ^ 8) ≡ with_bit n at false
cleared_is n at fit h =
    let below : 2 ^ at < 2 ^ 8 = pow_below at 8 h in
    rw (one_shl at 8 h)
    (omega (arith, and-not 8 (2 ^ at) n below fit, and_pow n at, and_le_l n (2 ^ at), and_comm (2 ^ at) n, and_comm n (2 ^ 8 - 1 - 2 ^ at)))

worth_digit : (x : ℕ) → x < 2 → worth (x == 1) ≡ x
worth_digit x h = elim (cases_order x 1) [
  | inl eq ↦ rw eq
  | inr rest ↦ elim rest [
    | inl lt ↦ let none : x ≡ 0 = omega arith in rw none
    | inr gt ↦ absurd (omega arith)
  ]
]

same_at : (n at i : ℕ) → bit_at (with_bit n at (bit n at)) i ≡ bit_at n i
same_at n at i = elim (cases_order i at) [
  | inl eq ↦ rw eq (at_same n at (bit n at) ∙ worth_digit (bit_at n at) (bit_at-lt n at))
  | inr rest ↦ elim rest [
    | inl lt ↦ at_lower n at i (bit n at) lt
    | inr gt ↦ at_other n at i (bit n at) (omega arith)
  ]
]

-- a bit that is made what it is
pub with_bit_same : (n at : ℕ) → with_bit n at (bit n at) ≡ n
with_bit_same n at = same_from_bits (with_bit n at (bit n at)) n (same_at n at)

twice_at : (n at : ℕ) (b c : Bool) (i : ℕ) → bit_at (with_bit (with_bit n at b) at c) i ≡ bit_at (with_bit n at c) i
twice_at n at b c i = elim (cases_order i at) [
  | inl eq ↦ rw eq (at_same (with_bit n at b) at c ∙ sym (at_same n at c))
  | inr rest ↦
      let other : i ≢ at = elim rest as (λ _. i ≢ at) [ inl lt ↦ omega arith | inr gt ↦ omega arith ] in
      at_other (with_bit n at b) at i c other ∙ at_other n at i b other ∙ sym (at_other n at i c other)
]

-- a bit that is made twice
pub with_bit_twice : (n at : ℕ) (b c : Bool) → with_bit (with_bit n at b) at c ≡ with_bit n at c
with_bit_twice n at b c = same_from_bits (with_bit (with_bit n at b) at c) (with_bit n at c) (twice_at n at b c)
