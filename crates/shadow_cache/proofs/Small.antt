-- Small facts on options, tests, lists and places.
use Rattle.std.proofs.Common.{◌≡◌, ℕ, zero, suc, List, [], ◌∷◌, length, slice_set, Bool, true, false, not, ◌&&◌, Option, Some, None, refl, ap, arith}
use Rattle.std.proofs.lemmas.Option.{same_Some, none-some}
use Rattle.std.proofs.lemmas.Bool.{false≢true}
use Rattle.shadow_cache.specs.Others.{one_later}

pub some-none : {A : Type 0} (a : A) → Some a ≡ None → ⊥
some-none a e = cc

pub length-set : (bits : List Bool) (i : ℕ) (v : Bool) → length (slice_set bits i v) ≡ length bits
length-set [] i v = refl
length-set (b ∷ bs) zero v = refl
length-set (b ∷ bs) (suc i) v = ap suc (length-set bs i v)

pub not-first : (a b : Bool) → (not a && b) ≡ true → a ≡ false
not-first true b e = absurd (false≢true e)
not-first false b e = refl

-- ---- a place that is one later

pub none-later : (o : Option ℕ) → one_later o ≡ None → o ≡ None
none-later None e = refl
none-later (Some i) e = cc

pub later-is : (o : Option ℕ) (i : ℕ) → one_later o ≡ Some (suc i) → o ≡ Some i
later-is None i e = absurd (none-some (suc i) e)
later-is (Some j) i e = (let s = same_Some (suc j) (suc i) e in let t : j ≡ i = omega (arith, s) in ap (λ k. Some k) t)

pub later-none : (o : Option ℕ) → one_later o ≡ Some 0 → ⊥
later-none None e = none-some 0 e
later-none (Some j) e = (let s = same_Some (suc j) 0 e in absurd (omega (arith, s)))
