-- The first bad field is the least of all that are bad.
use Rattle.std.proofs.Common.{◌≡◌, ℕ, zero, suc, ◌≤◌, min, List, [], ◌∷◌, Option, Some, None, refl, sym, subst, arith, inl, inr}
use Rattle.std.specs.List.{All, Contains, cons_option}
use Rattle.std.proofs.lemmas.Bool.Decides.{leb_tells}
use Rattle.board.specs.Earlier.{earlier}
use Rattle.checkpoint.specs.Demands.{bad_in, first_bad}
use Rattle.checkpoint.specs.Least.{bad_places, IsLeast, FirstBadIsLeast}

all_more : (b n : ℕ) (xs : List ℕ) → b ≤ n → All (λ (x : ℕ). b ≤ x) xs → All (λ (x : ℕ). b ≤ x) (n ∷ xs)
all_more b n xs low all zero d h = low
all_more b n xs low all (suc k) d h = all k d (omega arith)

all_lower : (b n : ℕ) (xs : List ℕ) → b ≤ n → All (λ (x : ℕ). n ≤ x) xs → All (λ (x : ℕ). b ≤ x) xs
all_lower b n xs low all k d h = let above = all k d h in omega (arith, above, low)

none_below : (b : ℕ) → All (λ (x : ℕ). b ≤ x) []
none_below b k d h = absurd (omega arith)

front_least : (n : ℕ) (xs : List ℕ) → All (λ (x : ℕ). n ≤ x) xs → IsLeast (n ∷ xs) (Some n)
front_least n xs all = ((0, omega arith, refl), all_more n n xs (omega arith) all)

later_least : (n m : ℕ) (xs : List ℕ) → m ≤ n → Contains xs m → All (λ (x : ℕ). m ≤ x) xs → IsLeast (n ∷ xs) (Some m)
later_least n m xs low has all = ((suc has.0, omega (arith, has.1), has.2), all_more m n xs low all)

least_more : (n : ℕ) (xs : List ℕ) (o : Option ℕ) → IsLeast xs o → IsLeast (n ∷ xs) (earlier (Some n) o)
least_more n [] None e = front_least n [] (none_below n)
least_more n (x ∷ xs) None e = absurd (cc)
least_more n xs (Some m) h = elim (leb_tells n m) [
  | inl (_, low) ↦
      let is : min n m ≡ n = omega arith in
      subst (λ (k : ℕ). IsLeast (n ∷ xs) (Some k)) (sym is) (front_least n xs (all_lower n m xs low h.1))
  | inr (_, high) ↦
      let is : min n m ≡ m = omega arith in
      subst (λ (k : ℕ). IsLeast (n ∷ xs) (Some k)) (sym is) (later_least n m xs (omega arith) h.0 h.1)
]

least_with : (bad : Option ℕ) (xs : List ℕ) (o : Option ℕ) → IsLeast xs o → IsLeast (cons_option bad xs) (earlier bad o)
least_with None xs o h = h
least_with (Some n) xs o h = least_more n xs o h

pub first_bad_least : FirstBadIsLeast
unfolding first_bad
first_bad_least there [] = refl
first_bad_least there (d ∷ demands) =
    least_with (bad_in there d) (bad_places there demands) (first_bad there demands) (first_bad_least there demands)
