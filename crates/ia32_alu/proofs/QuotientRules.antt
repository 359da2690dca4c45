-- Quotients and remainders, as numbers.
use Rattle.std.proofs.Common.{◌≡◌, ℕ, ◌+◌, ◌-◌, ◌*◌, ◌/◌, ◌%◌, ◌^◌, ◌<◌, ◌≤◌, Bool, true, false, arith, refl, sym, ap, div-lt_iff_lt-mul, ◌∙◌, subst, inl, inr, ℤ, pos, negsuc, ◌≤ℤ◌, Option, Some, None, cond, eqb}
use Rattle.std.specs.Prelude.{nat_lt, IfSome, is_some, not, ◌==◌, ◌&&◌}
use Rattle.std.specs.Int.RustNames.{int_div, int_rem, unsigned_abs}
use Rattle.std.proofs.lemmas.Int.{ints, quot-rem, rem_below}
use Rattle.std.proofs.lemmas.Bool.Decides.{nat_tests, eqb_tells}
use Rattle.std.proofs.Math.Nat.{mod-eq_of_lt, div-eq_of_lt-le, add-mul}
use Rattle.std.proofs.lemmas.Nat.{mod-mul-add}
use Rattle.ia32_types.specs.declared.size.Size.{Size}
use Rattle.ia32_types.specs.declared.size.Size.TheVariants.{Byte, Word, Long}
use Rattle.ia32_types.specs.Size.{span, top}
use Rattle.ia32_types.specs.Bits.{signed_at, fits_at, fits, bits_at, signed, low}
use Rattle.ia32_alu.specs.Product.{double_top}
use Rattle.ia32_alu.specs.Quotient.{unsigned_quotient, signed_quotient, divide}
use Rattle.ia32_alu.specs.Division.{Divides, DividesSigned}
use Rattle.ia32_alu.proofs.CompareRules.{low_small}
use Rattle.ia32_alu.proofs.Above.{is_below}

given : {A : Type 0} (P : A → Type 0) (b : Bool) (x : A) → (b ≡ true → P x) → IfSome (cond b (Some x) None) P
given P true x h = h refl
given P false x h = tt

not_by_zero : {A : Type 0} (P : A → Type 0) (d : ℕ) (o : Option A) → (0 < d → IfSome o P) → IfSome (cond (eqb d 0) None o) P
not_by_zero P d o h =
    let Q : Bool → Type 0 = λ b. IfSome (cond b None o) P in
    elim (eqb_tells d 0) [ inl is ↦ subst Q (sym is.0) tt | inr isnt ↦ let p : 0 < d = omega (arith, isnt.1) in subst Q (sym isnt.0) (h p) ]

pub divided : (s : Size) (n d : ℕ) → IfSome (unsigned_quotient s n d) (λ q. Divides n d q.0 q.1)
unfolding unsigned_quotient
divided s n d =
    not_by_zero _ d _ (λ some. given _ (nat_lt (n / d) (span s)) (n / d, n % d) (λ fit. record { whole = omega arith; less = omega arith }))

-- the bits of a number that has such bits stand for it
below : (h m : ℕ) → fits_at h (pos m) ≡ true → m < h
below h m f = grind (arith, ints, nat_tests)

from : (h m : ℕ) → fits_at h (negsuc m) ≡ true → m < h
from h m f = grind (arith, ints, nat_tests)

as_bits : (h m : ℕ) → m < h → signed_at h m ≡ pos m
as_bits h m l = grind (arith, ints, nat_tests)

as_upper_bits : (h m : ℕ) → m < h → signed_at h (2 * h - 1 - m) ≡ negsuc m
as_upper_bits h m l = grind (arith, ints, nat_tests)

pub signed_of_bits : (h : ℕ) (z : ℤ) → fits_at h z ≡ true → signed_at h (bits_at h z) ≡ z
signed_of_bits h (pos m) f =
    let l : m < h = below h m f in
    let small : m % (2 * h) ≡ m = mod-eq_of_lt (omega arith) in
    ap (signed_at h) small ∙ as_bits h m l
signed_of_bits h (negsuc m) f =
    let l : m < h = from h m f in
    let small : m % (2 * h) ≡ m = mod-eq_of_lt (omega arith) in
    ap (λ k. signed_at h (2 * h - 1 - k)) small ∙ as_upper_bits h m l

pub fits_below : (h : ℕ) (z : ℤ) → unsigned_abs z < h → fits_at h z ≡ true
fits_below h (pos m) l = grind (arith, ints, nat_tests)
fits_below h (negsuc m) l = grind (arith, ints, nat_tests)

pub abs_signed : (h d : ℕ) → d < 2 * h → unsigned_abs (signed_at h d) ≤ h
abs_signed h d l = grind (arith, ints, nat_tests)

pub abs_some : (h d : ℕ) → d < 2 * h → 0 < d → 0 < unsigned_abs (signed_at h d)
abs_some h d l p = grind (arith, ints, nat_tests)

rem_not_negative : (n d : ℤ) → pos 0 ≤ℤ n → pos 0 ≤ℤ int_rem n d
rem_not_negative (pos n) d l = grind (arith, ints, nat_tests)
rem_not_negative (negsuc n) d l = grind (arith, ints, nat_tests)

rem_not_positive : (n d : ℤ) → n ≤ℤ pos 0 → int_rem n d ≤ℤ pos 0
rem_not_positive (pos n) d l = grind (arith, ints, nat_tests)
rem_not_positive (negsuc n) d l = grind (arith, ints, nat_tests)

of_numbers : (h d : ℕ) (n : ℤ) → d < 2 * h → 0 < d → fits_at h (int_div n (signed_at h d)) ≡ true →
    DividesSigned n (signed_at h d) (signed_at h (bits_at h (int_div n (signed_at h d))))
    (signed_at h (bits_at h (int_rem n (signed_at h d))))
of_numbers h d n l p f =
    let by : ℤ = signed_at h d in
    let less : unsigned_abs (int_rem n by) < unsigned_abs by = rem_below n by (abs_some h d l p) in
    let bound : unsigned_abs by ≤ h = abs_signed h d l in
    let q : signed_at h (bits_at h (int_div n by)) ≡ int_div n by = signed_of_bits h (int_div n by) f in
    let r : signed_at h (bits_at h (int_rem n by)) ≡ int_rem n by =
    signed_of_bits h (int_rem n by) (fits_below h (int_rem n by) (omega arith)) in
    let P : ℤ → Type 0 = λ x. DividesSigned n by x (signed_at h (bits_at h (int_rem n by))) in
    let Q : ℤ → Type 0 = λ x. DividesSigned n by (int_div n by) x in
    subst P (sym q) (subst Q (sym r) (record {
      whole = quot-rem n by;
      less = less;
      not_negative = rem_not_negative n by;
      not_positive = rem_not_positive n by;
    }))

pub divided_signed : (s : Size) (n d : ℕ) → d < span s →
    IfSome (signed_quotient s n d) (λ q. DividesSigned (signed_at (double_top s) n) (signed s d) (signed s q.0) (signed s q.1))
unfolding signed_quotient
divided_signed Byte n d l = not_by_zero _ d _ (λ some. given _ _ _ (λ fit. of_numbers (2 ^ 7) d (signed_at (double_top Byte) n) l some fit))
divided_signed Word n d l =
    not_by_zero _ d _ (λ some. given _ _ _ (λ fit. of_numbers (2 ^ 15) d (signed_at (double_top Word) n) l some fit))
divided_signed Long n d l =
    not_by_zero _ d _ (λ some. given _ _ _ (λ fit. of_numbers (2 ^ 31) d (signed_at (double_top Long) n) l some fit))

pub unsigned_division : (s : Size) (high b by : ℕ) →
    IfSome (divide false s high b by) (λ q. Divides (low s high * span s + low s b) (low s by) q.0 q.1)
unfolding divide
unsigned_division s high b by = divided s (low s high * span s + low s b) (low s by)

pub signed_division : (s : Size) (high b by : ℕ) →
    IfSome (divide true s high b by) (λ q. DividesSigned (signed_at (double_top s) (low s high * span s + low s b)) (signed s (low s by))
    (signed s q.0) (signed s q.1))
unfolding divide
signed_division s high b by = divided_signed s (low s high * span s + low s b) (low s by) (low_small s by)

-- where there is a quotient
some_as : {A : Type 0} (x : A) (zero fit below : Bool) → (zero ≡ true → below ≡ false) → (zero ≡ false → fit ≡ below)
    → is_some (cond zero None (cond fit (Some x) None)) ≡ below
some_as x true fit below z f = sym (z refl)
some_as x false true below z f = f refl
some_as x false false below z f = f refl

none_below : (h d : ℕ) → (d == 0) ≡ true → nat_lt h d ≡ false
none_below h d e = grind (arith, nat_tests)

-- a test of one order is a test of the other
as_test : (a b c d : ℕ) → (a < b → c < d) → (c < d → a < b) → nat_lt a b ≡ nat_lt c d
as_test a b c d f g = grind (arith, nat_tests, f, g)

upper_half : (m h l d : ℕ) → 0 < d → (h * m + l < m * d → h < d) → (h < d → h * m + l < m * d) → nat_lt ((h * m + l) / d) m ≡ nat_lt h d
upper_half m h l d some f g =
    as_test ((h * m + l) / d) m h d (λ less. f ((div-lt_iff_lt-mul some).0 less)) (λ less. (div-lt_iff_lt-mul some).1 (g less))

upper : (s : Size) (h l d : ℕ) → l < span s → 0 < d → nat_lt ((h * span s + l) / d) (span s) ≡ nat_lt h d
upper Byte h l d small some = upper_half (2 ^ 8) h l d some (λ p. omega arith) (λ p. omega arith)
upper Word h l d small some = upper_half (2 ^ 16) h l d some (λ p. omega arith) (λ p. omega arith)
upper Long h l d small some = upper_half (2 ^ 32) h l d some (λ p. omega arith) (λ p. omega arith)

positive : (d : ℕ) → (d == 0) ≡ false → 0 < d
positive d e = grind (arith, nat_tests)

pub upper_refused : (s : Size) (high b by : ℕ) → is_some (divide false s high b by) ≡ nat_lt (low s high) (low s by)
unfolding divide unsigned_quotient
upper_refused s high b by =
    let n = low s high * span s + low s b in
    let d = low s by in
    some_as (n / d, n % d) (d == 0) (nat_lt (n / d) (span s)) (nat_lt (low s high) d)
    (none_below (low s high) d) (λ e. upper s (low s high) (low s b) d (low_small s b) (positive d e))

as_tests : {A : Type 0} (x : A) (zero fit : Bool) → is_some (cond zero None (cond fit (Some x) None)) ≡ (not zero && fit)
as_tests x true fit = refl
as_tests x false true = refl
as_tests x false false = refl

pub refused : (s : Size) (high b by : ℕ)
    → is_some (divide false s high b by) ≡ (not (low s by == 0) && nat_lt ((low s high * span s + low s b) / low s by) (span s))
unfolding divide unsigned_quotient
refused s high b by =
    let n = low s high * span s + low s b in
    let d = low s by in
    as_tests (n / d, n % d) (d == 0) (nat_lt (n / d) (span s))

pub signed_refused : (s : Size) (high b by : ℕ) →
    is_some (divide true s high b by)
    ≡ (not (low s by == 0) && fits s (int_div (signed_at (double_top s) (low s high * span s + low s b)) (signed s (low s by))))
unfolding divide signed_quotient
signed_refused s high b by =
    let n : ℤ = signed_at (double_top s) (low s high * span s + low s b) in
    let d : ℤ = signed s (low s by) in
    as_tests (bits_at (top s) (int_div n d), bits_at (top s) (int_rem n d)) (low s by == 0) (fits s (int_div n d))

-- there is no other quotient
only_quotient : (q d r : ℕ) → r < d → (q * d + r) / d ≡ q
only_quotient q d r less = div-eq_of_lt-le d (omega arith) (rw add-mul (omega arith))

not_zero : (d r : ℕ) → r < d → (d == 0) ≡ false
not_zero d r less = grind (arith, nat_tests)

found : (s : Size) (q d r : ℕ) → r < d → q < span s → unsigned_quotient s (q * d + r) d ≡ Some (q, r)
unfolding unsigned_quotient
found s q d r less fit = rw (not_zero d r less, only_quotient q d r less, mod-mul-add q d r less, is_below q (span s) fit) refl

pub only_division : (s : Size) (high b by q r : ℕ) → Divides (low s high * span s + low s b) (low s by) q r → q < span s
    → divide false s high b by ≡ Some (q, r)
unfolding divide
only_division s high b by q r is fit = ap (λ (n : ℕ). unsigned_quotient s n (low s by)) is.whole ∙ found s q (low s by) r is.less fit
