-- Signed numbers by numbers above the top: a, whose top bit is worth h, is the one that stands h above it, less h.
use Rattle.std.proofs.Common.{◌≡◌, ℕ, ◌+◌, ◌-◌, ◌*◌, ◌%◌, ◌<◌, ◌≤◌, true, false, ◌&&◌, arith, ap, ◌∙◌, inl, inr, ◌⊎◌, ℤ, pos, ◌+ℤ◌, ◌-ℤ◌}
use Rattle.std.specs.Prelude.{nat_lt, nat_le, int_lt}
use Rattle.std.proofs.lemmas.Int.{ints}
use Rattle.std.proofs.lemmas.Nat.{mod-mul-add}
use Rattle.std.proofs.lemmas.Bool.{cases_lt}
use Rattle.std.proofs.Math.Nat.{mod-eq_of_lt}
use Rattle.std.proofs.lemmas.Bool.Decides.{nat_tests}
use Rattle.ia32_types.specs.Bits.{signed_at, fits_at}

-- a number below 2m has m in it once or not at all
pub once : (n m : ℕ) → n < m + m → ((n < m) × (n % m ≡ n)) ⊎ ((m ≤ n) × (n % m + m ≡ n))
once n m h = elim (cases_lt n m) [ inl lt ↦ inl (lt, mod-eq_of_lt lt) | inr ge ↦ inr (ge, carried n m ge h) ]
  where
    carried : (n m : ℕ) → m ≤ n → n < m + m → n % m + m ≡ n
    carried n m ge h =
        let e : n ≡ 1 * m + (n - m) = omega arith in
        let at : (1 * m + (n - m)) % m ≡ n - m = mod-mul-add 1 m (n - m) (omega arith) in
        let at' : n % m ≡ n - m = ap (λ (x : ℕ). x % m) e ∙ at in
        omega arith

pub is_below : (q n : ℕ) → q < n → nat_lt q n ≡ true
is_below q n less = grind (arith, nat_tests)

pub is_not_below : (q n : ℕ) → n ≤ q → nat_lt q n ≡ false
is_not_below q n less = grind (arith, nat_tests)

-- a signed number and h above it
unfoldable pub above : ℕ → ℕ → ℕ
above h a = (a + h) % (h + h)

pub is_above : (h a : ℕ) → a < h + h → signed_at h a ≡ pos (above h a) -ℤ pos h
unfolding above
is_above h a l = elim (once (a + h) (h + h) (omega arith)) [
  | inl low ↦ rw (is_below a h (omega arith)) (omega (arith, ints, low.1))
  | inr high ↦ rw (is_not_below a h (omega arith)) (omega (arith, ints, high.1))
]

-- x is above a, by the sign
abbrev pub IsAbove : ℕ → ℕ → ℕ → Type 0
IsAbove h a x = ((a < h) × (x ≡ a + h)) ⊎ ((h ≤ a) × (x + h ≡ a))

pub by_sign : (h a : ℕ) → a < h + h → IsAbove h a (above h a)
unfolding above
by_sign h a l = elim (once (a + h) (h + h) (omega arith)) [
  | inl low ↦ inl (omega arith, low.1)
  | inr high ↦ inr (omega arith, omega (arith, high.1))
]

-- a number z = n - 2h, or z = m - n, is in range by naturals
pub fits_sum : (h n : ℕ) (z : ℤ) → z +ℤ pos (h + h) ≡ pos n → fits_at h z ≡ (nat_le h n && nat_lt n (h + h + h))
fits_sum h n z e = grind (arith, ints, nat_tests)

pub fits_difference : (h m n : ℕ) (z : ℤ) → z +ℤ pos n ≡ pos m → fits_at h z ≡ (nat_le n (m + h) && nat_lt m (n + h))
fits_difference h m n z e = grind (arith, ints, nat_tests)

pub less_above : (h m n : ℕ) (z w : ℤ) → z ≡ pos m -ℤ pos h → w ≡ pos n -ℤ pos h → int_lt z w ≡ nat_lt m n
less_above h m n z w e f = grind (arith, ints, nat_tests)
