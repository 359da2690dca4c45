-- The lower of two places is below what both are below.
use Rattle.std.proofs.Common.{◌≡◌, ℕ, ◌<◌, ◌≤◌, Bool, true, false, cond, nat_lt, Option, Some, None, arith}
use Rattle.std.specs.Prelude.{IfSome}
use Rattle.std.specs.Bool.{then_some}
use Rattle.elf_form.specs.Faults.{◌or_lower◌}

one_below : (n x y : ℕ) (t : Bool) → x < n → y < n → IfSome (cond t (Some x) (Some y)) (λ at. at < n)
one_below n x y true h k = h
one_below n x y false h k = k

both_below : (n : ℕ) (a b : Option ℕ) → IfSome a (λ at. at < n) → IfSome b (λ at. at < n) → IfSome (a or_lower b) (λ at. at < n)
both_below n None b h k = k
both_below n (Some x) None h k = h
both_below n (Some x) (Some y) h k = one_below n y x (nat_lt y x) k h

pub lower_below : (n : ℕ) (o a b : Option ℕ) → o ≡ a or_lower b → IfSome a (λ at. at < n) → IfSome b (λ at. at < n)
    → IfSome o (λ at. at < n)
lower_below n o a b is h k = rw is (both_below n a b h k)

place_below : (n at : ℕ) (t : Bool) → at < n → IfSome (then_some t at) (λ at. at < n)
place_below n at true h = h
place_below n at false h = tt

pub then_below : (n at : ℕ) (o : Option ℕ) (t : Bool) → o ≡ then_some t at → at < n → IfSome o (λ at. at < n)
then_below n at o t is h = rw is (place_below n at t h)

pub below_as : (n m : ℕ) (o : Option ℕ) → n ≤ m → IfSome o (λ at. at < n) → IfSome o (λ at. at < m)
below_as n m None le h = tt
below_as n m (Some at) le h = omega (arith, le, h)
