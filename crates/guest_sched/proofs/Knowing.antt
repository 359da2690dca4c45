-- What is known of the translations of several kernels goes on where one of them has become another.
use Rattle.std.proofs.Common.{◌≡◌, ◌≢◌, inl, inr, ℕ, suc, ◌+◌, ◌≤◌, ◌<◌, ◌==◌, ◌&&◌, not, nat_lt, Bool, true, false, List, [], ◌∷◌, ◌++◌, length, get_or, Some, refl, ap, subst, sym, ◌∙◌, eq-eqb, ne_eqb, lt-ltb, ltb-true, ltb-false, arith}
use Rattle.std.specs.Prelude.{if◌then◌else◌}
use Rattle.std.proofs.lemmas.Bool.Decides.{eqb_tells}
use Rattle.guest_sched.specs.Apart.{Seat}
use Rattle.guest_sched.specs.Known.{EachKnown, IsKnownSince}
use Rattle.guest_sched.specs.Since.{Since, released_since, turned_since}
use Rattle.guest_sched.specs.declared.kernel.Kernel.{Kernel}
use Rattle.guest_sched.proofs.Apart.{EachKnows}
use Rattle.wedge_step.specs.CarryLaws.{CarryLaws}

-- after the turn of one of them, and before others
pub turned_here : (turned : ℕ) (since : ℕ → Since) (new : Since) → turned_since turned new since turned ≡ new
turned_here turned since new = ap (λ (b : Bool). if b then new else since turned) (eq-eqb turned turned refl)

pub turned_other : (turned : ℕ) (since : ℕ → Since) (j : ℕ) → j ≢ turned → (new : Since) → turned_since turned new since j ≡ since j
turned_other turned since j other new = ap (λ (b : Bool). if b then new else since j) (ne_eqb j turned other)

-- after one more of them gave way
picked : (a b : Bool) (x y : Since) → b ≡ true → (if a && not b then x else y) ≡ y
picked true true x y is = refl
picked true false x y is = absurd (let no : false ≡ true = is in cc)
picked false b x y is = refl

taken : (a b : Bool) (x y : Since) → a ≡ true → b ≡ false → (if a && not b then x else y) ≡ x
taken true true x y is isnt = absurd (let no : true ≡ false = isnt in cc)
taken true false x y is isnt = refl
taken false b x y is isnt = absurd (let no : false ≡ true = is in cc)

below_next : (j n : ℕ) (a b : Bool) → nat_lt j (suc n) ≡ a → nat_lt j n ≡ b → j ≢ n → nat_lt j (suc n) ≡ nat_lt j n
below_next j n true true x y other = x ∙ sym y
below_next j n false false x y other = x ∙ sym y
below_next j n true false x y other = absurd (other (let p = ltb-true j (suc n) x in let q = ltb-false j n y in omega (arith, p, q)))
below_next j n false true x y other = absurd (let p = ltb-false j (suc n) x in let q = ltb-true j n y in omega (arith, p, q))

none_below : (j : ℕ) (a : Bool) → nat_lt j 0 ≡ a → nat_lt j 0 ≡ false
none_below j true x = absurd (let p = ltb-true j 0 x in omega (arith, p))
none_below j false x = x

module _ (present : ℕ) (since : ℕ → Since) where
  pub released_none : (j : ℕ) → released_since 0 present since j ≡ since j
  released_none j = ap (λ (b : Bool). if b && not (j == present) then Some [] else since j) (none_below j (nat_lt j 0) refl)

  pub released_other : (n j : ℕ) → j ≢ n → released_since (suc n) present since j ≡ released_since n present since j
  released_other n j other =
      ap (λ (b : Bool). if b && not (j == present) then Some [] else since j)
      (below_next j n (nat_lt j (suc n)) (nat_lt j n) refl refl other)

  pub released_present : (n j : ℕ) → n ≡ present → released_since (suc n) present since j ≡ released_since n present since j
  released_present n j is = elim (eqb_tells j n) [
    | inl e ↦
        let here : (j == present) ≡ true = eq-eqb j present (e.1 ∙ is) in
        picked (nat_lt j (suc n)) (j == present) (Some []) (since j) here
        ∙ sym (picked (nat_lt j n) (j == present) (Some []) (since j) here)
    | inr o ↦ released_other n j o.1
  ]

  pub released_here : (n : ℕ) → n ≢ present → released_since (suc n) present since n ≡ Some []
  released_here n other =
      taken (nat_lt n (suc n)) (n == present) (Some []) (since n) (lt-ltb n (suc n) (omega arith)) (ne_eqb n present other)

module _ (frames : ℕ) (since since' : ℕ → Since) (same : (j : ℕ) → since' j ≡ since j) where
  pub known_same : (i : ℕ) (ks : List Kernel) (ss : List Seat) → EachKnown i frames since ks ss → EachKnown i frames since' ks ss
  known_same i [] ss h = tt
  known_same i (k ∷ ks) [] h = tt
  known_same i (k ∷ ks) (s ∷ ss) h = (subst (IsKnownSince frames k s) (sym (same i)) h.0, known_same (suc i) ks ss h.1)

module _ (laws : CarryLaws) (frames : ℕ) (since since' : ℕ → Since) where
  -- the same, of those from here on
  pub known_rest : (i : ℕ) (ks : List Kernel) (xs ys : List Seat) → EachKnows frames xs ys → ((j : ℕ) → i ≤ j → since' j ≡ since j)
      → EachKnown i frames since ks xs → EachKnown i frames since' ks ys
  known_rest i [] xs ys know same h = tt
  known_rest i (k ∷ ks) [] [] know same h = tt
  known_rest i (k ∷ ks) [] (y ∷ ys) know same h = absurd know
  known_rest i (k ∷ ks) (x ∷ xs) [] know same h = tt
  known_rest i (k ∷ ks) (x ∷ xs) (y ∷ ys) know same h = (
    subst (IsKnownSince frames k y) (sym (same i (omega arith))) (know.0 laws k (since i) h.0),
    known_rest (suc i) ks xs ys know.1 (λ j le. same j (omega (arith, le))) h.1,
  )

  -- kernel n has become another
  pub known_moves : (i n : ℕ) (ks : List Kernel) (before before' after after' : List Seat) (s s' : Seat) (dk : Kernel)
      → n ≡ i + length before → EachKnows frames before before' → EachKnows frames after after' → ((j : ℕ) → j ≢ n → since' j ≡ since j)
      → ((k : Kernel) → k ≡ get_or ks (length before) dk → IsKnownSince frames k s (since n) → IsKnownSince frames k s' (since' n))
      → EachKnown i frames since ks (before ++ s ∷ after) → EachKnown i frames since' ks (before' ++ s' ∷ after')
  known_moves i n [] before before' after after' s s' dk is left right same here h = tt
  known_moves i n (k ∷ ks) [] [] after after' s s' dk is left right same here h =
      let at : n ≡ i = omega (arith, is) in (
        subst (λ (j : ℕ). IsKnownSince frames k s' (since' j)) at
            (here k refl (subst (λ (j : ℕ). IsKnownSince frames k s (since j)) (sym at) h.0)),
        known_rest (suc i) ks after after' right (λ j le. same j (λ e. absurd (omega (arith, le, e, at)))) h.1,
      )
  known_moves i n (k ∷ ks) [] (y ∷ before') after after' s s' dk is left right same here h = absurd left
  known_moves i n (k ∷ ks) (x ∷ before) [] after after' s s' dk is left right same here h = absurd left
  known_moves i n (k ∷ ks) (x ∷ before) (y ∷ before') after after' s s' dk is left right same here h = (
    subst (IsKnownSince frames k y) (sym (same i (λ e. absurd (omega (arith, is, e))))) (left.0 laws k (since i) h.0),
    known_moves (suc i) n ks before before' after after' s s' dk (omega (arith, is)) left.1 right same here h.1,
  )
