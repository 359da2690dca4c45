-- A division takes a product back.
use Rattle.std.proofs.Common.{◌≡◌, ℕ, zero, suc, ◌+◌, ◌-◌, ◌*◌, ◌/◌, ◌%◌, ◌^◌, ◌<◌, ◌≤◌, Bool, true, false, arith, refl, sym, ap, ◌∙◌, subst, inl, inr, ℤ, pos, negsuc, neg_ℤ, ◌*ℤ◌, Option, Some, None, cond, eqb}
use Rattle.std.specs.Prelude.{nat_lt}
use Rattle.std.specs.Int.RustNames.{int_div, int_rem, unsigned_abs}
use Rattle.std.proofs.lemmas.Int.{ints, unsigned_abs-mul}
use Rattle.std.proofs.lemmas.Bool.{cases_lt}
use Rattle.std.proofs.lemmas.Nat.{mod_below, pow_pos, mul-le, mul-lt}
use Rattle.std.proofs.lemmas.Bool.Decides.{nat_tests}
use Rattle.std.proofs.Math.Nat.{mod-eq_of_lt, mul-div_cancel, mul-mod_left, div-lt_iff_lt-mul}
use Rattle.ia32_types.specs.declared.flags.Flags.{Flags}
use Rattle.ia32_types.specs.declared.size.Size.{Size}
use Rattle.ia32_types.specs.declared.size.Size.TheVariants.{Byte, Word, Long}
use Rattle.ia32_types.specs.Size.{span, top, width}
use Rattle.ia32_types.specs.Bits.{signed_at, fits_at, bits_at, signed, low}
use Rattle.ia32_alu.specs.Product.{double_top, unsigned_product, signed_product, multiply}
use Rattle.ia32_alu.specs.Quotient.{unsigned_quotient, signed_quotient, divide}
use Rattle.ia32_alu.proofs.CompareRules.{low_small}
use Rattle.ia32_alu.proofs.QuotientRules.{signed_of_bits, abs_signed, abs_some, fits_below}
use Rattle.ia32_alu.proofs.Above.{is_below}

-- the halves of a number with twice the bits, joined again
joined : (m n : ℕ) → 0 < m → n < m * m → n / m % m * m + n % m % m ≡ n
joined m n p l =
    let q : n / m < m = (div-lt_iff_lt-mul p).1 l in
    let upper : n / m % m ≡ n / m = mod-eq_of_lt q in
    let lower : n % m % m ≡ n % m = mod-eq_of_lt (mod_below n m p) in
    ap (λ k. k * m + n % m % m) upper ∙ ap (λ k. n / m * m + k) lower ∙ whole m n p
  where
    whole : (m n : ℕ) → 0 < m → n / m * m + n % m ≡ n
    whole m n p = omega arith

taken : {A : Type 0} (b c : Bool) (x : A) → b ≡ false → c ≡ true → cond b None (cond c (Some x) None) ≡ Some x
taken b c x p q = cc

abbrev some_pair : ℕ → ℕ → Option (ℕ × ℕ)
some_pair a b = Some (a, b)

pairs : {a b c d : ℕ} → a ≡ c → b ≡ d → some_pair a b ≡ some_pair c d
pairs {a = a} {b = b} {c = c} {d = d} p q = ap (λ x. some_pair x b) p ∙ ap (λ x. some_pair c x) q

isnt_zero : (n : ℕ) → 0 < n → eqb n 0 ≡ false
isnt_zero n p = grind (arith, nat_tests)

unsigned_back : (s : Size) (a b : ℕ) → a < span s → 0 < b → unsigned_quotient s (a * b) b ≡ Some (a, 0)
unfolding unsigned_quotient
unsigned_back s a b l p =
    let q : a * b / b ≡ a = mul-div_cancel a p in
    let r : a * b % b ≡ 0 = mul-mod_left a b in
    let both : ℕ × ℕ = (a * b / b, a * b % b) in
    taken (eqb b 0) (nat_lt (a * b / b) (span s)) both (isnt_zero b p) (ap (λ k. nat_lt k (span s)) q ∙ is_below a (span s) l)
    ∙ pairs q r

negative_over : (n b : ℕ) → int_div (neg_ℤ (pos n)) (pos b) ≡ neg_ℤ (pos (n / b))
negative_over zero b = ap (λ k. pos k) (zero_over b) ∙ sym (ap (λ k. neg_ℤ (pos k)) (zero_over b))
  where
    zero_over : (b : ℕ) → 0 / b ≡ 0
    zero_over b = grind arith
negative_over (suc n) b = refl

over_negative : (n b : ℕ) → int_div (neg_ℤ (pos n)) (negsuc b) ≡ pos (n / suc b)
over_negative zero b = ap (λ k. neg_ℤ (pos k)) (zero_over b) ∙ sym (ap (λ k. pos k) (zero_over b))
  where
    zero_over : (b : ℕ) → 0 / suc b ≡ 0
    zero_over b = grind arith
over_negative (suc n) b = refl

back : (x y : ℤ) → 0 < unsigned_abs y → int_div (x *ℤ y) y ≡ x
back (pos a) (pos b) p = ap (λ k. pos k) (mul-div_cancel a p)
back (pos a) (negsuc b) p = over_negative (a * suc b) b ∙ ap (λ k. pos k) (mul-div_cancel a p)
back (negsuc a) (pos b) p = negative_over (suc a * b) b ∙ ap (λ k. neg_ℤ (pos k)) (mul-div_cancel (suc a) p)
back (negsuc a) (negsuc b) p = ap (λ k. neg_ℤ (pos k)) (mul-div_cancel (suc a) p)

negative_rest : (n m : ℕ) (d : ℤ) → unsigned_abs d ≡ m → n % m ≡ 0 → int_rem (neg_ℤ (pos n)) d ≡ pos 0
negative_rest zero m d e z = ap (λ k. pos (0 % k)) e ∙ ap (λ k. pos k) z
negative_rest (suc n) m d e z = ap (λ k. neg_ℤ (pos (suc n % k))) e ∙ ap (λ k. neg_ℤ (pos k)) z

nothing_left : (x y : ℤ) → int_rem (x *ℤ y) y ≡ pos 0
nothing_left (pos a) (pos b) = ap (λ k. pos k) (mul-mod_left a b)
nothing_left (pos a) (negsuc b) = negative_rest (a * suc b) (suc b) (negsuc b) refl (mul-mod_left a (suc b))
nothing_left (negsuc a) (pos b) = negative_rest (suc a * b) b (pos b) refl (mul-mod_left (suc a) b)
nothing_left (negsuc a) (negsuc b) = ap (λ k. pos k) (mul-mod_left (suc a) (suc b))

-- a number's bits, of the number that they stand for
bits_of_signed : (h a : ℕ) → a < 2 * h → bits_at h (signed_at h a) ≡ a
bits_of_signed h a l = elim (cases_lt a h) [ inl lt ↦ lower h a lt | inr ge ↦ upper h a ge l ]
  where
    lower : (h a : ℕ) → a < h → bits_at h (signed_at h a) ≡ a
    lower h a l =
        let is : signed_at h a ≡ pos a = grind (arith, ints, nat_tests) in
        ap (bits_at h) is ∙ mod-eq_of_lt (omega arith)

    upper : (h a : ℕ) → h ≤ a → a < 2 * h → bits_at h (signed_at h a) ≡ a
    upper h a ge l =
        let m : ℕ = 2 * h - 1 - a in
        let is : signed_at h a ≡ negsuc m = grind (arith, ints, nat_tests) in
        let small : m % (2 * h) ≡ m = mod-eq_of_lt (omega arith) in
        ap (bits_at h) is ∙ ap (λ k. 2 * h - 1 - k) small ∙ omega arith

signed_in_range : (h a : ℕ) → a < 2 * h → fits_at h (signed_at h a) ≡ true
signed_in_range h a l = grind (arith, ints, nat_tests)

-- a product of two signed numbers has room in twice the bits
product_fits : (h k : ℕ) (x y : ℤ) → unsigned_abs x ≤ h → unsigned_abs y ≤ h → h * h < k → fits_at k (x *ℤ y) ≡ true
product_fits h k x y lx ly room =
    let m : unsigned_abs (x *ℤ y) ≡ unsigned_abs x * unsigned_abs y = unsigned_abs-mul x y in
    let n : unsigned_abs x * unsigned_abs y ≤ h * h = mul-le (unsigned_abs x) (unsigned_abs y) h h lx ly in
    fits_below k (x *ℤ y) (omega arith)

bits_below : (h : ℕ) (z : ℤ) → 0 < h → bits_at h z < 2 * h
bits_below h (pos m) p = mod_below m (2 * h) (omega arith)
bits_below h (negsuc m) p = omega arith

signed_back_at : (s : Size) (h k a b : ℕ) → top s ≡ h → double_top s ≡ k → 0 < h → h * h < k → a < 2 * h → b < 2 * h → 0 < b →
    signed_quotient s (bits_at k (signed_at h a *ℤ signed_at h b)) b ≡ Some (a, 0)
unfolding signed_quotient
signed_back_at s h k a b e g p room la lb some =
    let x : ℤ = signed_at h a in
    let y : ℤ = signed_at h b in
    let n : signed_at k (bits_at k (x *ℤ y)) ≡ x *ℤ y =
    signed_of_bits k (x *ℤ y) (product_fits h k x y (abs_signed h a la) (abs_signed h b lb) room) in
    let q : int_div (signed_at k (bits_at k (x *ℤ y))) y ≡ x = ap (λ z. int_div z y) n ∙ back x y (abs_some h b lb some) in
    let r : int_rem (signed_at k (bits_at k (x *ℤ y))) y ≡ pos 0 = ap (λ z. int_rem z y) n ∙ nothing_left x y in
    let fit : fits_at h (int_div (signed_at k (bits_at k (x *ℤ y))) y) ≡ true = ap (fits_at h) q ∙ signed_in_range h a la in
    let at : bits_at h (int_div (signed_at k (bits_at k (x *ℤ y))) y) ≡ a = ap (bits_at h) q ∙ bits_of_signed h a la in
    let rest : bits_at h (int_rem (signed_at k (bits_at k (x *ℤ y))) y) ≡ 0 = ap (bits_at h) r ∙ mod-eq_of_lt (omega arith) in
    let o : ℕ → ℕ → Option (ℕ × ℕ) = λ t d.
    some_pair (bits_at t (int_div (signed_at d (bits_at k (x *ℤ y))) (signed_at t b)))
    (bits_at t (int_rem (signed_at d (bits_at k (x *ℤ y))) (signed_at t b))) in
    let G : ℕ → ℕ → Type 0 = λ t d.
    cond {A = Option (ℕ × ℕ)} (eqb b 0) None
    (cond {A = Option (ℕ × ℕ)} (fits_at t (int_div (signed_at d (bits_at k (x *ℤ y))) (signed_at t b))) (o t d) None) ≡ some_pair a 0 in
    let at_numbers : G h k =
    taken (eqb b 0) (fits_at h (int_div (signed_at k (bits_at k (x *ℤ y))) y)) _ (isnt_zero b some) fit ∙ pairs at rest in
    subst (λ t. G t (double_top s)) (sym e) (subst (λ d. G h d) (sym g) at_numbers)

signed_back : (s : Size) (a b : ℕ) → a < span s → b < span s → 0 < b →
    signed_quotient s (bits_at (double_top s) (signed s a *ℤ signed s b)) b ≡ Some (a, 0)
signed_back Byte a b la lb p = signed_back_at Byte (2 ^ 7) (2 ^ 15) a b refl refl (omega arith) (omega arith) la lb p
signed_back Word a b la lb p = signed_back_at Word (2 ^ 15) (2 ^ 31) a b refl refl (omega arith) (omega arith) la lb p
signed_back Long a b la lb p = signed_back_at Long (2 ^ 31) (2 ^ 63) a b refl refl (omega arith) (omega arith) la lb p

double_room : (s : Size) → 2 * double_top s ≡ span s * span s
double_room Byte = refl
double_room Word = refl
double_room Long = refl

double_some : (s : Size) → 0 < double_top s
double_some Byte = omega arith
double_some Word = omega arith
double_some Long = omega arith

span_some : (s : Size) → 0 < span s
span_some s = pow_pos (width s)

products_below : (m a b : ℕ) → a < m → b < m → a * b < m * m
products_below m a b p q = mul-lt a b m m p q

pub product_divided : (sign : Bool) (s : Size) (a b : ℕ) (f : Flags) → 0 < low s b →
    divide sign s ((multiply sign s a b f).0 / span s) ((multiply sign s a b f).0 % span s) b ≡ Some (low s a, 0)
unfolding divide multiply unsigned_product signed_product
product_divided false s a b f p =
    let x : ℕ = low s a in
    let y : ℕ = low s b in
    ap (λ n. unsigned_quotient s n y) (joined (span s) (x * y) (span_some s) (products_below (span s) x y (low_small s a) (low_small s b)))
    ∙ unsigned_back s x y (low_small s a) p
product_divided true s a b f p =
    let x : ℕ = low s a in
    let y : ℕ = low s b in
    let n : ℕ = bits_at (double_top s) (signed s x *ℤ signed s y) in
    let below : n < 2 * double_top s = bits_below (double_top s) (signed s x *ℤ signed s y) (double_some s) in
    let B : ℕ → Type 0 = λ m. n < m in
    ap (λ k. signed_quotient s k y) (joined (span s) n (span_some s) (subst B (double_room s) below))
    ∙ signed_back s x y (low_small s a) (low_small s b) p
