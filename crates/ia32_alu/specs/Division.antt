-- What a quotient and a remainder are.
use Rattle.std.specs.Prelude.{◌≡◌, ℕ, ◌+◌, ◌*◌, ◌<◌, ℤ, pos, ◌+ℤ◌, ◌*ℤ◌, ◌≤ℤ◌}
use Rattle.std.specs.Int.RustNames.{unsigned_abs}

-- n by d is q, and r remains
pub record Divides (n d q r : ℕ) : Type 0 where
  pub whole : n ≡ q * d + r
  pub less : r < d

-- of signed numbers; what remains has the sign of n, or is 0
pub record DividesSigned (n d q r : ℤ) : Type 0 where
  pub whole : q *ℤ d +ℤ r ≡ n
  pub less : unsigned_abs r < unsigned_abs d
  pub not_negative : pos 0 ≤ℤ n → pos 0 ≤ℤ r
  pub not_positive : n ≤ℤ pos 0 → r ≤ℤ pos 0
