-- Splits of a list: its front, one of it, and what stands after that.
use Rattle.std.proofs.Common.{◌≡◌, List, [], ◌∷◌, ◌++◌, refl, sym, ap, ◌∙◌}

-- a split of a list with one more after it is at that one, or is a split of the list
pub data Split {X : Type 0} (l : List X) (x : X) (a : List X) (y : X) (b : List X) : Type 0 where
  At_end : a ≡ l → y ≡ x → b ≡ [] → Split l x a y b
  Within : (c : List X) → l ≡ a ++ y ∷ c → b ≡ c ++ x ∷ [] → Split l x a y b

pub heads : {X : Type 0} (x y : X) (xs ys : List X) → x ∷ xs ≡ y ∷ ys → x ≡ y
heads x y xs ys e = cc

pub tails : {X : Type 0} (x y : X) (xs ys : List X) → x ∷ xs ≡ y ∷ ys → xs ≡ ys
tails x y xs ys e = cc

pub none_some : {X : Type 0} (a : List X) (y : X) (b : List X) → [] ≡ a ++ y ∷ b → ⊥
none_some [] y b e = cc
none_some (z ∷ a) y b e = cc

module _ {X : Type 0} where
  more : (w z : X) (l : List X) (x : X) (a : List X) (y : X) (b : List X) → w ≡ z → Split l x a y b → Split (w ∷ l) x (z ∷ a) y b
  more w z l x a y b e (At_end same is none) = At_end (ap (λ (t : X). t ∷ a) (sym e) ∙ ap (λ (k : List X). w ∷ k) same) is none
  more w z l x a y b e (Within c same rest) = Within c (ap (λ (k : List X). w ∷ k) same ∙ ap (λ (t : X). t ∷ (a ++ y ∷ c)) e) rest

  pub split_of : (l : List X) (x : X) (a : List X) (y : X) (b : List X) → l ++ x ∷ [] ≡ a ++ y ∷ b → Split l x a y b
  split_of [] x [] y b e = At_end refl (sym (heads x y [] b e)) (sym (tails x y [] b e))
  split_of [] x (z ∷ a) y b e = absurd (none_some a y b (tails x z [] (a ++ y ∷ b) e))
  split_of (w ∷ l) x [] y b e = Within l (ap (λ (t : X). t ∷ l) (heads w y (l ++ x ∷ []) b e)) (sym (tails w y (l ++ x ∷ []) b e))
  split_of (w ∷ l) x (z ∷ a) y b e =
      more w z l x a y b (heads w z (l ++ x ∷ []) (a ++ y ∷ b) e) (split_of l x a y b (tails w z (l ++ x ∷ []) (a ++ y ∷ b) e))
