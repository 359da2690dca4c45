-- Lists of pages, gone through from the first on.
use Rattle.std.proofs.Common.{◌≡◌, ℕ, zero, suc, ◌+◌, ◌-◌, ◌<◌, ◌≤◌, List, [], ◌∷◌, ◌++◌, length, drop, take, take-suc, get_or, add-one, zero-add, Bool, true, false, not, cond, eqb, ◌&&◌, ◌||◌, Option, Some, None, IfSome, refl, sym, ap, ◌∙◌, subst, inl, inr, arith}
use Rattle.std.proofs.lemmas.List.{drop_more}
use Rattle.std.proofs.lemmas.Bool.{cases_Bool, or_right}
use Rattle.std.proofs.lemmas.Bool.Decides.{eqb_tells}
use Rattle.std.specs.FinMap.{FinMap, get}
use Rattle.std.specs.Ordering.{nat_cmp}
use Rattle.paging.specs.declared.entry.Entry.{Entry}
use Rattle.guest_ram.specs.Among.{is_among}
use Rattle.shadow_tables.specs.Slots.{ArePart}
use Rattle.wedge_mem.specs.Settled.{has_entry, used}

pub true-false : true ≡ false → ⊥
true-false e = cc

by-bool : (b : Bool) {c : Bool} → (b ≡ true → c ≡ true) → c ≡ false → b ≡ false
by-bool true h e = sym (h refl) ∙ e
by-bool false h e = refl

pub if-some : {A : Type 0} {P : A → Type 0} (o : Option A) → ((x : A) → o ≡ Some x → P x) → IfSome o P
if-some None h = tt
if-some (Some x) h = h x refl

pub among-at : (x : ℕ) (xs : List ℕ) (i : ℕ) → i < length xs
    → is_among x (drop i xs) ≡ (eqb x (get_or xs i 0) || is_among x (drop (i + 1) xs))
among-at x xs i h = ap (is_among x) (drop_more xs i 0 h)

pub among-here : (x : ℕ) (xs : List ℕ) (i : ℕ) → i < length xs → eqb x (get_or xs i 0) ≡ true → is_among x (drop i xs) ≡ true
among-here x xs i h e = among-at x xs i h ∙ ap (λ b. b || is_among x (drop (i + 1) xs)) e

pub among-later : (x : ℕ) (xs : List ℕ) (i : ℕ) → i < length xs → eqb x (get_or xs i 0) ≡ false
    → is_among x (drop i xs) ≡ is_among x (drop (i + 1) xs)
among-later x xs i h e = among-at x xs i h ∙ ap (λ b. b || is_among x (drop (i + 1) xs)) e

-- a page is used at its last place
abbrev pub is_last_use : FinMap nat_cmp Entry → List ℕ → ℕ → Bool
is_last_use set xs i = has_entry (get set (get_or xs i 0)) && not (is_among (get_or xs i 0) (drop (i + 1) xs))

pub used-by : (b : Bool) (x : ℕ) (ys : List ℕ) → length (cond b (x ∷ ys) ys) ≡ cond b 1 0 + length ys
used-by true x ys = omega arith
used-by false x ys = omega arith

pub used-cons : (set : FinMap nat_cmp Entry) (x : ℕ) (xs : List ℕ)
    → length (used set (x ∷ xs)) ≡ cond (has_entry (get set x) && not (is_among x xs)) 1 0 + length (used set xs)
used-cons set x xs = used-by (has_entry (get set x) && not (is_among x xs)) x (used set xs)

one-few : (b : Bool) → cond {A = ℕ} b 1 0 ≤ 1
one-few true = omega arith
one-few false = omega arith

-- no more pages are used than there are
pub used-few : (set : FinMap nat_cmp Entry) (xs : List ℕ) → length (used set xs) ≤ length xs
used-few set [] = omega arith
used-few set (x ∷ xs) =
    let e = used-cons set x xs in let rest = used-few set xs in let one = one-few (has_entry (get set x) && not (is_among x xs)) in
    omega (arith, e, rest, one)

pub used-at : (set : FinMap nat_cmp Entry) (xs : List ℕ) (i : ℕ) → i < length xs
    → length (used set (drop i xs)) ≡ cond (is_last_use set xs i) 1 0 + length (used set (drop (i + 1) xs))
used-at set xs i h = ap (λ ys. length (used set ys)) (drop_more xs i 0 h) ∙ used-cons set (get_or xs i 0) (drop (i + 1) xs)

pub used-here : (set : FinMap nat_cmp Entry) (xs : List ℕ) (i : ℕ) → i < length xs → is_last_use set xs i ≡ true
    → length (used set (drop i xs)) ≡ 1 + length (used set (drop (i + 1) xs))
used-here set xs i h e = used-at set xs i h ∙ ap (λ b. cond b 1 0 + length (used set (drop (i + 1) xs))) e

pub used-later : (set : FinMap nat_cmp Entry) (xs : List ℕ) (i : ℕ) → i < length xs → is_last_use set xs i ≡ false
    → length (used set (drop i xs)) ≡ length (used set (drop (i + 1) xs))
used-later set xs i h e =
    used-at set xs i h ∙ ap (λ b. cond b 1 0 + length (used set (drop (i + 1) xs))) e ∙ zero-add (length (used set (drop (i + 1) xs)))

-- ---- frames that are no longer write-protected

part-false : (x : ℕ) (fs gs : List ℕ) → ArePart fs gs → is_among x gs ≡ false → is_among x fs ≡ false
part-false x fs gs h e = by-bool (is_among x fs) (h x) e

pub among-append : (x : ℕ) (xs : List ℕ) (y : ℕ) → is_among x (xs ++ y ∷ []) ≡ true → is_among x xs ≡ false → x ≡ y
among-append x [] y h e = elim (eqb_tells x y) [ inl t ↦ t.1 | inr n ↦ (let q = n.0 in cc) ]
among-append x (z ∷ xs) y h e =
    elim (eqb_tells x z) [
      | inl t ↦ (let q = t.0 in absurd (true-false (sym (ap (λ b. b || is_among x xs) q) ∙ e)))
      | inr n ↦ among-append x xs y (sym (ap (λ b. b || is_among x (xs ++ y ∷ [])) n.0) ∙ h) (sym (ap (λ b. b || is_among x xs) n.0) ∙ e)
    ]

pub unprotected-more : (xs : List ℕ) (i : ℕ) (old new : List ℕ) → i < length xs → ArePart new old → is_among (get_or xs i 0) new ≡ false
    → ((x : ℕ) → is_among x (take i xs) ≡ true → is_among x old ≡ false) → (x : ℕ) → is_among x (take (i + 1) xs) ≡ true
    → is_among x new ≡ false
unprotected-more xs i old new l part here before x h =
    elim (cases_Bool (is_among x (take i xs))) [
      | inl t ↦ part-false x new old part (before x t)
      | inr n ↦
          let e : x ≡ get_or xs i 0 =
          among-append x (take i xs) (get_or xs i 0) (sym (ap (is_among x) (rw add-one (take-suc xs i 0 l))) ∙ h) n in
          subst (λ y. is_among y new ≡ false) (sym e) here
    ]

-- ---- frames that were noted

pub not-both : (x : ℕ) (xs : List ℕ) (y : ℕ) → is_among x (xs ++ y ∷ []) ≡ false → (is_among x xs ≡ false) × (x ≡ y → ⊥)
not-both x [] y e = (refl, λ s. elim (eqb_tells x y) [ inl t ↦ true-false (sym (ap (λ b. b || false) t.0) ∙ e) | inr n ↦ n.1 s ])
not-both x (z ∷ xs) y e =
    elim (eqb_tells x z) [
      | inl t ↦ absurd (true-false (sym (ap (λ b. b || is_among x (xs ++ y ∷ [])) t.0) ∙ e))
      | inr n ↦
          let r = not-both x xs y (sym (ap (λ b. b || is_among x (xs ++ y ∷ [])) n.0) ∙ e) in
          (ap (λ b. b || is_among x xs) n.0 ∙ r.0, r.1)
    ]

pub read_from-less : (xs : List ℕ) (i : ℕ) (first old new : ℕ → Bool) → i < length xs → ((x : ℕ) → (x ≡ get_or xs i 0 → ⊥) → new x ≡ old x)
    → ((x : ℕ) → is_among x (take i xs) ≡ false → old x ≡ first x) → (x : ℕ) → is_among x (take (i + 1) xs) ≡ false → new x ≡ first x
read_from-less xs i first old new l here before x h =
    let b = not-both x (take i xs) (get_or xs i 0) (sym (ap (is_among x) (rw add-one (take-suc xs i 0 l))) ∙ h) in
    here x b.1 ∙ before x b.0

pub read_from-more : (xs : List ℕ) (i : ℕ) (old new : ℕ → Bool) → i < length xs → (get_or xs i 0 < 16384 → new (get_or xs i 0) ≡ true)
    → ((x : ℕ) → old x ≡ true → new x ≡ true) → ((x : ℕ) → is_among x (take i xs) ≡ true → x < 16384 → old x ≡ true) → (x : ℕ)
    → is_among x (take (i + 1) xs) ≡ true → x < 16384 → new x ≡ true
read_from-more xs i old new l here stays before x h low =
    elim (cases_Bool (is_among x (take i xs))) [
      | inl t ↦ stays x (before x t low)
      | inr n ↦
          let e : x ≡ get_or xs i 0 =
          among-append x (take i xs) (get_or xs i 0) (sym (ap (is_among x) (rw add-one (take-suc xs i 0 l))) ∙ h) n in
          let low' : get_or xs i 0 < 16384 = subst (λ y. y < 16384) e low in
          subst (λ y. new y ≡ true) (sym e) (here low')
    ]

-- an element is among its list
pub element-among : (xs : List ℕ) (i : ℕ) → i < length xs → is_among (get_or xs i 0) xs ≡ true
element-among [] i l = absurd (omega (arith, l))
element-among (x ∷ xs) zero l = elim (eqb_tells x x) [ inl t ↦ ap (λ b. b || is_among x xs) t.0 | inr n ↦ absurd (n.1 refl) ]
element-among (x ∷ xs) (suc i) l = or_right (eqb (get_or xs i 0) x) (is_among (get_or xs i 0) xs) (element-among xs i (omega (arith, l)))
