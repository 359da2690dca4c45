-- The bytes of ranges that were met may be read.
use Rattle.std.specs.Prelude.{nat_le, nat_lt}
use Rattle.std.proofs.Common.{◌≡◌, ℕ, ◌+◌, ◌^◌, ◌<◌, ◌≤◌, List, length, Bool, true, false, cond, Option, Some, None, refl, arith}
use Rattle.std.proofs.lemmas.Bool.{and_from, and_parts, both_ways, le-leb, leb-true, lt-ltb, ltb-true}
use Rattle.ia32_exec.specs.Outcomes.{AreStored}
use Rattle.ia32_exec.specs.declared.outcome.Stores.{Stores}
use Rattle.ia32_exec.specs.declared.outcome.Stores.TheVariants.{Nothing, One, Eight}
use Rattle.ia32_exec.specs.declared.access.Range.{Range}
use Rattle.ia32_exec.specs.Readable.{Covers}
use Rattle.host_cpl3.specs.declared.reach.Reach.{Reach}
use Rattle.host_cpl3.specs.Pages.{place}
use Rattle.host_cpl3.specs.Reaches.{holds, placed, IsReach, IsOf, IsRead, IsWritten}

held : (x : Reach) (a : ℕ) → holds x a ≡ true → (x.at ≤ a) × (a < x.at + x.len)
held x a e = let tests =
    and_parts (nat_le x.at a) (nat_lt a (x.at + x.len)) e in (leb-true x.at a tests.0, ltb-true a (x.at + x.len) tests.1)

-- an address of either range
read_by : (m : List ℕ) (root : ℕ) (x y : Reach) (a : ℕ) (b : Bool) → IsReach m root x → IsReach m root y
    → (b ≡ true → (x.at ≤ a) × (a < x.at + x.len)) → (b ≡ false → (y.at ≤ a) × (a < y.at + y.len)) → a < 2 ^ 32
    → (a < 2 ^ 32) × (cond b (placed x a) (placed y a) ≡ place m root a) × (cond b (placed x a) (placed y a) < length m)
read_by m root x y a true hx hy in_x in_y lt = let h = in_x refl in (lt, hx.leads a h.0 h.1, hx.inside a h.0 h.1)
read_by m root x y a false hx hy in_x in_y lt = let h = in_y refl in (lt, hy.leads a h.0 h.1, hy.inside a h.0 h.1)

first_held : (x : Reach) (a : ℕ) → x.at ≤ a → a < x.at + x.len → holds x a ≡ true
first_held x a low high = and_from (nat_le x.at a) (nat_lt a (x.at + x.len)) (le-leb x.at a low) (lt-ltb a (x.at + x.len) high)

in_first : (m : List ℕ) (root : ℕ) (x y : Reach) (a : ℕ) → IsReach m root x → IsReach m root y → x.at ≤ a → a < x.at + x.len
    → IsRead m root x y a
in_first m root x y a hx hy low high =
    let h = read_by m root x y a (holds x a) hx hy (λ e. (low, high)) (λ e. absurd (both_ways (holds x a) e (first_held x a low high)))
    (omega (arith, hx.fits)) in
    record { space = h.0; leads = h.1; inside = h.2 }

in_second : (m : List ℕ) (root : ℕ) (x y : Reach) (a : ℕ) → IsReach m root x → IsReach m root y → y.at ≤ a → a < y.at + y.len
    → IsRead m root x y a
in_second m root x y a hx hy low high =
    let h = read_by m root x y a (holds x a) hx hy (λ e. held x a e) (λ e. (low, high)) (omega (arith, hy.fits)) in
    record { space = h.0; leads = h.1; inside = h.2 }

pub first_read : (m : List ℕ) (root : ℕ) (x y : Reach) (o : Option Range) → IsReach m root x → IsReach m root y → IsOf o x
    → Covers (IsRead m root x y) o
first_read m root x y None hx hy of = tt
first_read m root x y (Some r) hx hy of = λ k lt. in_first m root x y (r.at + k) hx hy (omega (arith, of.0)) (omega (arith, of.0, of.1, lt))

pub second_read : (m : List ℕ) (root : ℕ) (x y : Reach) (o : Option Range) → IsReach m root x → IsReach m root y → IsOf o y
    → Covers (IsRead m root x y) o
second_read m root x y None hx hy of = tt
second_read m root x y (Some r) hx hy of =
    λ k lt. in_second m root x y (r.at + k) hx hy (omega (arith, of.0)) (omega (arith, of.0, of.1, lt))

-- and written, each at its place
pub written : (m : List ℕ) (root : ℕ) (y : Reach) (o : Option Range) → IsReach m root y → IsOf o y
    → Covers (λ at. IsWritten (length m) y at × (placed y at ≡ place m root at)) o
written m root y None hy of = tt
written m root y (Some r) hy of = λ k lt.
    let low : y.at ≤ r.at + k = omega (arith, of.0) in
    let high : r.at + k < y.at + y.len = omega (arith, of.0, of.1, lt) in
    (record { space = omega (arith, hy.fits); inside = hy.inside (r.at + k) low high }, hy.leads (r.at + k) low high)

-- what is written in a range, and where
pub parts_stored : (P Q : ℕ → Type 0) (ws : Stores) → AreStored (λ at. P at × Q at) ws → AreStored P ws × AreStored Q ws
parts_stored P Q Nothing h = (tt, tt)
parts_stored P Q (One w) h = (λ k lt. (h k lt).0, λ k lt. (h k lt).1)
parts_stored P Q (Eight at vs) h = (λ k lt. (h k lt).0, λ k lt. (h k lt).1)
