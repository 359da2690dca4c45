-- Lists of registers, with one made new.
use Rattle.std.proofs.Common.{◌≡◌, ℕ, zero, suc, ◌<◌, arith, refl, ap, List, [], ◌∷◌, length}
use Rattle.std.specs.Prelude.{slice_index, slice_index_or, slice_set}

pub set_set : {A : Type 0} (i : ℕ) (v w : A) (g : List A) → slice_set (slice_set g i v) i w ≡ slice_set g i w
set_set i v w [] = refl
set_set zero v w (x ∷ g) = refl
set_set (suc i) v w (x ∷ g) = ap (λ h. x ∷ h) (set_set i v w g)

pub set_same : (i : ℕ) (g : List ℕ) → slice_set g i (slice_index g i) ≡ g
set_same i [] = refl
set_same zero (x ∷ g) = refl
set_same (suc i) (x ∷ g) = ap (λ h. x ∷ h) (set_same i g)

pub set_same_or : {A : Type 0} (i : ℕ) (d : A) (g : List A) → slice_set g i (slice_index_or g i d) ≡ g
set_same_or i d [] = refl
set_same_or zero d (x ∷ g) = refl
set_same_or (suc i) d (x ∷ g) = ap (λ h. x ∷ h) (set_same_or i d g)

pub index_set : (g : List ℕ) (i v : ℕ) → i < length g → slice_index (slice_set g i v) i ≡ v
index_set [] i v l = absurd (omega arith)
index_set (x ∷ g) zero v l = refl
index_set (x ∷ g) (suc i) v l = index_set g i v (omega arith)

pub length_set : {A : Type 0} (i : ℕ) (v : A) (g : List A) → length (slice_set g i v) ≡ length g
length_set i v [] = refl
length_set zero v (x ∷ g) = refl
length_set (suc i) v (x ∷ g) = ap (λ n. suc n) (length_set i v g)
