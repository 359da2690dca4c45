-- A sum or a difference that is in range is the result.
use Rattle.std.proofs.Common.{◌≡◌, ℕ, ◌+◌, ◌-◌, ◌%◌, ◌^◌, ◌<◌, ◌≤◌, Bool, true, false, not, arith, refl, sym, ◌∙◌, ℤ, pos, ◌+ℤ◌, ◌-ℤ◌}
use Rattle.std.specs.Prelude.{nat_lt, nat_le}
use Rattle.std.proofs.lemmas.Int.{ints}
use Rattle.std.proofs.lemmas.Bool.Decides.{nat_tests}
use Rattle.std.proofs.lemmas.Nat.{mod_below}
use Rattle.ia32_types.specs.declared.size.Size.{Size}
use Rattle.ia32_types.specs.declared.size.Size.TheVariants.{Byte, Word, Long}
use Rattle.ia32_types.specs.declared.flags.Flags.{Flags}
use Rattle.ia32_types.specs.declared.insn.Op.TheVariants.{Add, Adc, Sub, Sbb}
use Rattle.ia32_types.specs.Size.{span}
use Rattle.ia32_types.specs.Bits.{bit, worth, signed_at, fits_at, signed, low}
use Rattle.ia32_types.specs.declared.flags.TheConstants.{CARRY_AT}
use Rattle.ia32_alu.specs.Arithmetic.{alu}
use Rattle.ia32_alu.specs.Sums.{sum, sum_overflows, difference, difference_overflows}
use Rattle.ia32_alu.specs.Status.{settled, of_result}
use Rattle.ia32_alu.specs.Range.{TellsSum, TellsDifference}
use Rattle.ia32_alu.proofs.Above.{once, above, is_above}
use Rattle.ia32_alu.proofs.CompareRules.{low_small}
use Rattle.ia32_alu.proofs.FlagReads.{read_carry, read_overflow}

-- where z fits, and h below n
in_range : (h n : ℕ) (z : ℤ) → z +ℤ pos (h + h) ≡ pos n → not (fits_at h z) ≡ false → (h ≤ n) × (n < h + h + h)
in_range h n z e f = grind (arith, ints, nat_tests)

-- the remainder of a sum of signed numbers, over h
sum_above : (h a b c r : ℕ) → a < h + h → b < h + h → r ≡ (a + b + c) % (h + h) →
    c < 2 → h ≤ above h a + above h b + c → above h a + above h b + c < h + h + h → above h r + h ≡ above h a + above h b + c
unfolding above
sum_above h a b c r la lb e lc low high =
    let p = once (a + h) (h + h) (omega arith) in
    let q = once (b + h) (h + h) (omega arith) in
    let s = once (a + b + c) (h + h) (omega arith) in
    let t = once (r + h) (h + h) (omega arith) in
    omega arith

kept : (h a b c r : ℕ) → a < h + h → b < h + h → c < 2 → 0 < h → r ≡ (a + b + c) % (h + h) →
    not (fits_at h (signed_at h a +ℤ signed_at h b +ℤ pos c)) ≡ false → signed_at h r ≡ signed_at h a +ℤ signed_at h b +ℤ pos c
kept h a b c r la lb lc p e f =
    let x = is_above h a la in
    let y = is_above h b lb in
    let z = is_above h r (rw e (mod_below (a + b + c) (h + h) (omega arith))) in
    let range = in_range h (above h a + above h b + c) (signed_at h a +ℤ signed_at h b +ℤ pos c) (omega (arith, ints)) f in
    let same = sum_above h a b c r la lb e lc range.0 range.1 in
    omega (arith, ints)

signed_sum : (s : Size) (a b c : ℕ) → a < span s → b < span s → c < 2 → sum_overflows s a b c ≡ false →
    signed s ((a + b + c) % span s) ≡ signed s a +ℤ signed s b +ℤ pos c
unfolding sum_overflows
signed_sum Byte a b c la lb lc f = kept (2 ^ 7) a b c _ la lb lc (omega arith) refl f
signed_sum Word a b c la lb lc f = kept (2 ^ 15) a b c _ la lb lc (omega arith) refl f
signed_sum Long a b c la lb lc f = kept (2 ^ 31) a b c _ la lb lc (omega arith) refl f

difference_above : (h a b c r : ℕ) → a < h + h → b < h + h → r ≡ (a + (h + h) - (b + c)) % (h + h) →
    c < 2 → 0 < h → above h b + c ≤ above h a + h → above h a < above h b + c + h → above h r + (above h b + c) ≡ above h a + h
unfolding above
difference_above h a b c r la lb e lc p low high =
    let x = once (a + h) (h + h) (omega arith) in
    let y = once (b + h) (h + h) (omega arith) in
    let s = once (a + (h + h) - (b + c)) (h + h) (omega arith) in
    let t = once (r + h) (h + h) (omega arith) in
    omega arith

left_range : (h a b c : ℕ) (z : ℤ) → z +ℤ pos (b + c) ≡ pos a → not (fits_at h z) ≡ false → (b + c ≤ a + h) × (a < b + c + h)
left_range h a b c z e f = grind (arith, ints, nat_tests)

left : (h a b c r : ℕ) → a < h + h → b < h + h → c < 2 → 0 < h → r ≡ (a + (h + h) - (b + c)) % (h + h) →
    not (fits_at h (signed_at h a -ℤ signed_at h b -ℤ pos c)) ≡ false → signed_at h r ≡ signed_at h a -ℤ signed_at h b -ℤ pos c
left h a b c r la lb lc p e f =
    let x = is_above h a la in
    let y = is_above h b lb in
    let z = is_above h r (rw e (mod_below (a + (h + h) - (b + c)) (h + h) (omega arith))) in
    let range = left_range h (above h a) (above h b) c (signed_at h a -ℤ signed_at h b -ℤ pos c) (omega (arith, ints)) f in
    let same = difference_above h a b c r la lb e lc p range.0 range.1 in
    omega (arith, ints)

signed_difference : (s : Size) (a b c : ℕ) → a < span s → b < span s → c < 2 → difference_overflows s a b c ≡ false →
    signed s ((a + span s - (b + c)) % span s) ≡ signed s a -ℤ signed s b -ℤ pos c
unfolding difference_overflows
signed_difference Byte a b c la lb lc f = left (2 ^ 7) a b c _ la lb lc (omega arith) refl f
signed_difference Word a b c la lb lc f = left (2 ^ 15) a b c _ la lb lc (omega arith) refl f
signed_difference Long a b c la lb lc f = left (2 ^ 31) a b c _ la lb lc (omega arith) refl f

reaches : (m n : ℕ) → nat_le m n ≡ not (nat_lt n m)
reaches m n = grind (arith, nat_tests)

unsigned_sum : (m n : ℕ) → n < m + m → nat_le m n ≡ false → n % m ≡ n
unsigned_sum m n l f = grind (arith, nat_tests, once n m l)

unsigned_difference : (m a b : ℕ) → a < m → b ≤ m → nat_lt a b ≡ false → (a + m - b) % m + b ≡ a
unsigned_difference m a b la lb f = grind (arith, nat_tests, once (a + m - b) m (omega arith))

pub tells_sum : (s : Size) (a b c : ℕ) (f : Flags) → a < span s → b < span s → c < 2 →
    TellsSum s a b c (sum s a b c).0 (settled (sum s a b c).1 f)
unfolding sum of_result sum_overflows
tells_sum s a b c f la lb lc =
    let carry = read_carry (sum s a b c).1 f in
    let over = read_overflow (sum s a b c).1 f in
    record {
      carry = carry ∙ reaches (span s) (a + b + c);
      unsigned_sum = λ clear. unsigned_sum (span s) (a + b + c) (omega arith) (sym carry ∙ clear);
      overflow = over;
      signed_sum = λ clear. signed_sum s a b c la lb lc (sym over ∙ clear);
    }

pub tells_difference : (s : Size) (a b c : ℕ) (f : Flags) → a < span s → b < span s → c < 2 →
    TellsDifference s a b c (difference s a b c).0 (settled (difference s a b c).1 f)
unfolding difference of_result difference_overflows
tells_difference s a b c f la lb lc =
    let carry = read_carry (difference s a b c).1 f in
    let over = read_overflow (difference s a b c).1 f in
    record {
      carry = carry;
      unsigned_difference = λ clear. unsigned_difference (span s) a (b + c) la (omega arith) (sym carry ∙ clear);
      overflow = over;
      signed_difference = λ clear. signed_difference s a b c la lb lc (sym over ∙ clear);
    }

worth_small : (b : Bool) → worth b < 2
worth_small true = omega arith
worth_small false = omega arith

pub added : (s : Size) (a b : ℕ) (f : Flags) → TellsSum s (low s a) (low s b) 0 (alu Add s a b f).0 (alu Add s a b f).1
unfolding alu
added s a b f = tells_sum s (low s a) (low s b) 0 f (low_small s a) (low_small s b) (omega arith)

pub added_with_carry : (s : Size) (a b : ℕ) (f : Flags) →
    TellsSum s (low s a) (low s b) (worth (bit f.bits CARRY_AT)) (alu Adc s a b f).0 (alu Adc s a b f).1
unfolding alu
added_with_carry s a b f = tells_sum s (low s a) (low s b) (worth (bit f.bits CARRY_AT)) f (low_small s a) (low_small s b) (worth_small _)

pub subtracted : (s : Size) (a b : ℕ) (f : Flags) → TellsDifference s (low s a) (low s b) 0 (alu Sub s a b f).0 (alu Sub s a b f).1
unfolding alu
subtracted s a b f = tells_difference s (low s a) (low s b) 0 f (low_small s a) (low_small s b) (omega arith)

pub subtracted_with_borrow : (s : Size) (a b : ℕ) (f : Flags) →
    TellsDifference s (low s a) (low s b) (worth (bit f.bits CARRY_AT)) (alu Sbb s a b f).0 (alu Sbb s a b f).1
unfolding alu
subtracted_with_borrow s a b f =
    tells_difference s (low s a) (low s b) (worth (bit f.bits CARRY_AT)) f (low_small s a) (low_small s b) (worth_small _)
