-- Pages that accesses use one after another, and the room that is left for them.
use Rattle.std.proofs.Common.{ℕ, ◌+◌, ◌≤◌, arith}

pub none : (k m : ℕ) → m ≤ m + k
none k m = omega arith

pub wider : (n k l m : ℕ) → l ≤ m + n → l ≤ m + (n + k)
wider n k l m h = omega (arith, h)

pub further : (n k l m o : ℕ) → m ≤ l + n → o ≤ m + k → o ≤ l + (n + k)
further n k l m o h j = omega (arith, h, j)

pub has : (r k m : ℕ) → m ≤ r → m ≤ r + k
has r k m h = omega (arith, h)

pub has_after : (r n k l m : ℕ) → l ≤ r → m ≤ l + n → m ≤ r + n + k
has_after r n k l m h j = omega (arith, h, j)
