-- What finds the lowest of some places, and how such searches are put together.
use Rattle.std.proofs.Common.{◌≡◌, ◌≢◌, ℕ, zero, suc, ◌+◌, ◌<◌, ◌≤◌, Bool, true, false, not, cond, List, [], ◌∷◌, nat_lt, Option, Some, None, refl, sym, ap, ◌∙◌, subst, inl, inr, ◌⊎◌, arith}
use Rattle.std.specs.Prelude.{◌==◌, filter, fold}
use Rattle.std.specs.Bool.{then_some}
use Rattle.std.specs.List.{Contains, find}
use Rattle.std.specs.Option.{option_or}
use Rattle.std.proofs.lemmas.Bool.{cases_lt, le-ltb, lt-ltb, eqb-false, ne_eqb}
use Rattle.elf_form.specs.Faults.{◌or_lower◌}
use Rattle.elf_form.specs.Tables.{entries, found, first_in, second_in, first_some, further}
use Rattle.elf_form.specs.Order.{IsLowest}

abbrev pub some : ℕ → Option ℕ
some n = Some n

-- ---- members of a list

pub has_first : {A : Type 0} (x : A) (xs : List A) → Contains (x ∷ xs) x
has_first x xs = (0, omega arith, refl)

pub has_later : {A : Type 0} (x y : A) (xs : List A) → Contains xs y → Contains (x ∷ xs) y
has_later x y xs h = (suc h.0, omega (arith, h.1), h.2)

pub first_or_later : {A : Type 0} (x y : A) (xs : List A) → Contains (x ∷ xs) y → (x ≡ y) ⊎ Contains xs y
first_or_later x y xs (zero, lt, is) = inl is
first_or_later x y xs (suc k, lt, is) = inr (k, omega arith, is)

pub has_none : {A : Type 0} (y : A) → Contains [] y → ⊥
has_none y h = omega (arith, h.1)

-- ---- a search that gives the lowest place, or none where there is no such place

abbrev pub Finds : Option ℕ → (ℕ → Type 0) → Type 0
Finds None P = (k : ℕ) → P k → ⊥
Finds (Some at) P = IsLowest P at

pub finds_so : (o : Option ℕ) (P : ℕ → Type 0) (at : ℕ) → Finds o P → o ≡ Some at → IsLowest P at
finds_so None P at h e = absurd cc
finds_so (Some k) P at h e = let same : k ≡ at = cc in subst (IsLowest P) same h

pub so_finds : (o : Option ℕ) (P : ℕ → Type 0) (at : ℕ) → Finds o P → IsLowest P at → o ≡ Some at
so_finds None P at h l = absurd (h at l.0)
so_finds (Some k) P at h l = ap some (omega (arith, h.1 at l.0, l.1 k h.0))

pub finds_none : (o : Option ℕ) (P : ℕ → Type 0) → Finds o P → o ≡ None → (k : ℕ) → P k → ⊥
finds_none None P h e = h
finds_none (Some k) P h e = absurd cc

pub none_finds : (o : Option ℕ) (P : ℕ → Type 0) → Finds o P → ((k : ℕ) → P k → ⊥) → o ≡ None
none_finds None P h never = refl
none_finds (Some k) P h never = absurd (never k h.0)

pub finds_as : (o : Option ℕ) (P Q : ℕ → Type 0) → ((k : ℕ) → P k → Q k) → ((k : ℕ) → Q k → P k) → Finds o P → Finds o Q
finds_as None P Q to from h = λ k q. h k (from k q)
finds_as (Some at) P Q to from h = (to at h.0, λ k q. h.1 k (from k q))

pub finds_at : (o q : Option ℕ) (P : ℕ → Type 0) → o ≡ q → Finds o P → Finds q P
finds_at o q P e h = subst (λ (x : Option ℕ). Finds x P) e h

-- ---- one place

pub finds_bad : (b : Bool) (at : ℕ) → Finds (then_some b at) (λ k. (b ≡ true) × (k ≡ at))
finds_bad true at = ((refl, refl), λ k p. omega (arith, p.1))
finds_bad false at = λ k p. absurd cc

pub finds_not : (b : Bool) (at : ℕ) → Finds (then_some (not b) at) (λ k. (b ≡ false) × (k ≡ at))
finds_not true at = λ k p. absurd cc
finds_not false at = ((refl, refl), λ k p. omega (arith, p.1))

pub finds_field : (m n at : ℕ) → Finds (then_some (not (m == n)) at) (λ k. (m ≢ n) × (k ≡ at))
finds_field m n at = finds_as (then_some (not (m == n)) at) (λ k. ((m == n) ≡ false) × (k ≡ at)) (λ k. (m ≢ n) × (k ≡ at))
    (λ k p. (eqb-false m n p.0, p.1)) (λ k p. (ne_eqb m n p.0, p.1)) (finds_not (m == n) at)

-- ---- two searches

pub finds_lower : (a b : Option ℕ) (P Q : ℕ → Type 0) → Finds a P → Finds b Q → Finds (a or_lower b) (λ k. P k ⊎ Q k)
finds_lower None None P Q h g = λ k e. elim e [ inl p ↦ h k p | inr q ↦ g k q ]
finds_lower None (Some b) P Q h g = (inr g.0, λ k e. elim e [ inl p ↦ absurd (h k p) | inr q ↦ g.1 k q ])
finds_lower (Some a) None P Q h g = (inl h.0, λ k e. elim e [ inl p ↦ h.1 k p | inr q ↦ absurd (g k q) ])
finds_lower (Some a) (Some b) P Q h g = elim (cases_lt b a) [
  | inl lt ↦ finds_at (Some b) (cond (nat_lt b a) (Some b) (Some a)) (λ k. P k ⊎ Q k)
      (sym (ap (λ c. cond c (some b) (some a)) (lt-ltb b a lt)))
      (inr g.0, λ k e. elim e [ inl p ↦ omega (arith, h.1 k p, lt) | inr q ↦ g.1 k q ])
  | inr le ↦ finds_at (Some a) (cond (nat_lt b a) (Some b) (Some a)) (λ k. P k ⊎ Q k)
      (sym (ap (λ c. cond c (some b) (some a)) (le-ltb b a le)))
      (inl h.0, λ k e. elim e [ inl p ↦ h.1 k p | inr q ↦ omega (arith, g.1 k q, le) ])
]

pub finds_else : (a b : Option ℕ) (P Q : ℕ → Type 0) → ((i j : ℕ) → P i → Q j → i ≤ j) → Finds a P → Finds b Q
    → Finds (option_or a b) (λ k. P k ⊎ Q k)
finds_else None b P Q below h g = finds_as b Q (λ k. P k ⊎ Q k) (λ k q. inr q) (λ k e. elim e [ inl p ↦ absurd (h k p) | inr q ↦ q ]) g
finds_else (Some a) b P Q below h g = (inl h.0, λ k e. elim e [ inl p ↦ h.1 k p | inr q ↦ below a k h.0 q ])

-- a search that is made where a test says so
pub finds_if : (b : Bool) (o q : Option ℕ) (P Q : ℕ → Type 0) → Finds o P → Finds q Q
    → Finds (cond b o q) (λ k. ((b ≡ true) × P k) ⊎ ((b ≡ false) × Q k))
finds_if true o q P Q h g = finds_as o P (λ k. ((true ≡ true) × P k) ⊎ ((true ≡ false) × Q k)) (λ k p. inl (refl, p))
    (λ k e. elim e [ inl p ↦ p.1 | inr x ↦ absurd (cc x.0) ]) h
finds_if false o q P Q h g = finds_as q Q (λ k. ((false ≡ true) × P k) ⊎ ((false ≡ false) × Q k)) (λ k p. inr (refl, p))
    (λ k e. elim e [ inl x ↦ absurd (cc x.0) | inr p ↦ p.1 ]) g

-- ---- entries of a table, of which each gives places within itself

pub entry_from : (at size n x : ℕ) → Contains (entries at size n) x → at ≤ x
unfolding entries
entry_from at size zero x h = absurd (has_none x h)
entry_from at size (suc n) x h = elim (first_or_later at x (entries (at + size) size n) h) [
  | inl is ↦ omega (arith, is)
  | inr later ↦ omega (arith, entry_from (at + size) size n x later)
]

module _ (f : ℕ → Option ℕ) (P : ℕ → ℕ → Type 0) (size : ℕ) (each : (x : ℕ) → Finds (f x) (P x))
    (within : (x k : ℕ) → P x k → (x ≤ k) × (k < x + size)) where
  pub finds_some : (at n : ℕ) → Finds (first_some f (entries at size n)) (λ k. (x : ℕ) × Contains (entries at size n) x × P x k)
  unfolding entries first_some
  finds_some at zero = λ k h. has_none h.0 h.1
  finds_some at (suc n) =
      finds_as (first_some f (at ∷ entries (at + size) size n)) (λ k. P at k ⊎ ((x : ℕ) × Contains (entries (at + size) size n) x × P x k))
      (λ k. (x : ℕ) × Contains (at ∷ entries (at + size) size n) x × P x k)
      to
      from
      (finds_else (f at) (first_some f (entries (at + size) size n)) (P at) (λ k. (x : ℕ) × Contains (entries (at + size) size n) x × P x k)
      below (each at) (finds_some (at + size) n)) where
        to : (k : ℕ) → P at k ⊎ ((x : ℕ) × Contains (entries (at + size) size n) x × P x k) → (x : ℕ)
            × Contains (at ∷ entries (at + size) size n) x × P x k
        to k (inl p) = (at, has_first at (entries (at + size) size n), p)
        to k (inr (x, there, p)) = (x, has_later at x (entries (at + size) size n) there, p)

        from : (k : ℕ) → (x : ℕ) × Contains (at ∷ entries (at + size) size n) x × P x k → P at k
            ⊎ ((x : ℕ) × Contains (entries (at + size) size n) x × P x k)
        from k (x, there, p) = elim (first_or_later at x (entries (at + size) size n) there) [
          | inl is ↦ inl (subst (λ y. P y k) (sym is) p)
          | inr later ↦ inr (x, later, p)
        ]

        below : (i j : ℕ) → P at i → (x : ℕ) × Contains (entries (at + size) size n) x × P x j → i ≤ j
        below i j p (x, there, q) = omega (arith, (within at i p).1, (within x j q).0, entry_from (at + size) size n x there)

-- the first that passes a test, by one of its fields
some_first : (p : ℕ → Bool) (field : ℕ) (xs : List ℕ) → first_some (λ x. then_some (p x) (x + field)) xs ≡ further field (find p xs)
unfolding first_some
some_first p field [] = refl
some_first p field (x ∷ xs) = by (p x) (some_first p field xs) where
  by : (b : Bool) → first_some (λ y. then_some (p y) (y + field)) xs ≡ further field (find p xs)
      → option_or (then_some b (x + field)) (first_some (λ y. then_some (p y) (y + field)) xs) ≡ further field (cond b (Some x) (find p xs))
  by true e = refl
  by false e = e

pub finds_first : (p : ℕ → Bool) (field at size n : ℕ) → field < size → Finds (further field (find p (entries at size n)))
    (λ k. (x : ℕ) × Contains (entries at size n) x × (p x ≡ true) × (k ≡ x + field))
finds_first p field at size n lt =
    finds_at (first_some (λ x. then_some (p x) (x + field)) (entries at size n)) (further field (find p (entries at size n)))
    (λ k. (x : ℕ) × Contains (entries at size n) x × (p x ≡ true) × (k ≡ x + field))
    (some_first p field (entries at size n))
    (finds_as (first_some (λ x. then_some (p x) (x + field)) (entries at size n))
    (λ k. (x : ℕ) × Contains (entries at size n) x × ((p x ≡ true) × (k ≡ x + field)))
    (λ k. (x : ℕ) × Contains (entries at size n) x × (p x ≡ true) × (k ≡ x + field))
    (λ k h. (h.0, h.1, h.2.0, h.2.1)) (λ k h. (h.0, h.1, (h.2, h.3)))
    (finds_some (λ x. then_some (p x) (x + field)) (λ x k. (p x ≡ true) × (k ≡ x + field)) size (λ x. finds_bad (p x) (x + field))
    (λ x k h. (omega (arith, h.1), omega (arith, h.1, lt))) at n))

plus_zero : (o : Option ℕ) → further 0 o ≡ o
plus_zero None = refl
plus_zero (Some x) = ap some (omega arith)

pub finds_first_entry : (p : ℕ → Bool) (at size n : ℕ) → 0 < size
    → Finds (find p (entries at size n)) (λ x. Contains (entries at size n) x × (p x ≡ true))
finds_first_entry p at size n lt =
    finds_as (find p (entries at size n)) (λ k. (x : ℕ) × Contains (entries at size n) x × (p x ≡ true) × (k ≡ x + 0))
    (λ x. Contains (entries at size n) x × (p x ≡ true))
    to
    (λ k h. (k, h.0, h.1, omega arith))
    (finds_at (further 0 (find p (entries at size n))) (find p (entries at size n))
    (λ k. (x : ℕ) × Contains (entries at size n) x × (p x ≡ true) × (k ≡ x + 0)) (plus_zero (find p (entries at size n)))
    (finds_first p 0 at size n lt)) where
      to : (k : ℕ) → (x : ℕ) × Contains (entries at size n) x × (p x ≡ true) × (k ≡ x + 0) → Contains (entries at size n) k × (p k ≡ true)
      to k (x, there, is, same) = let e : x ≡ k =
          omega (arith, same) in subst (λ y. Contains (entries at size n) y × (p y ≡ true)) e (there, is)

-- ---- the first and the second of those that pass a test

head_found : (field x : ℕ) (ys : List ℕ) → some (x + field) ≡ further field (first_in (found (x ∷ ys)))
unfolding found
head_found field x [] = refl
head_found field x (y ∷ []) = refl
head_found field x (y ∷ z ∷ zs) = refl

pub first_found : (field : ℕ) (p : ℕ → Bool) (xs : List ℕ) → further field (find p xs) ≡ further field (first_in (found (filter p xs)))
unfolding found
first_found field p [] = refl
first_found field p (x ∷ xs) = by (p x) (first_found field p xs) where
  by : (b : Bool) → further field (find p xs) ≡ further field (first_in (found (filter p xs)))
      → further field (cond b (Some x) (find p xs)) ≡ further field (first_in (found (cond b (x ∷ filter p xs) (filter p xs))))
  by true e = head_found field x (filter p xs)
  by false e = e

second_after : (field x : ℕ) (ys : List ℕ) → further field (second_in (found (x ∷ ys))) ≡ further field (first_in (found ys))
unfolding found
second_after field x [] = refl
second_after field x (y ∷ []) = refl
second_after field x (y ∷ z ∷ []) = refl
second_after field x (y ∷ z ∷ w ∷ rest) = refl

abbrev pub IsLater : (ℕ → Bool) → List ℕ → ℕ → Type 0
IsLater p xs s = (Contains xs s × (p s ≡ true)) × (t : ℕ) × (Contains xs t × (p t ≡ true)) × (t < s)

pub finds_second : (p : ℕ → Bool) (field size at n : ℕ) → field < size
    → Finds (further field (second_in (found (filter p (entries at size n)))))
    (λ k. (s : ℕ) × IsLater p (entries at size n) s × (k ≡ s + field))
unfolding entries found
finds_second p field size at zero lt = λ k h. has_none h.0 h.1.0.0
finds_second p field size at (suc n) lt = by (p at) refl (finds_second p field size (at + size) n lt) where
  by : (b : Bool) → p at ≡ b → Finds (further field (second_in (found (filter p (entries (at + size) size n)))))
      (λ k. (s : ℕ) × IsLater p (entries (at + size) size n) s × (k ≡ s + field))
      → Finds
      (further field (second_in (found (cond b (at ∷ filter p (entries (at + size) size n)) (filter p (entries (at + size) size n))))))
      (λ k. (s : ℕ) × IsLater p (at ∷ entries (at + size) size n) s × (k ≡ s + field))
  by true is ih =
      finds_at (further field (find p (entries (at + size) size n)))
      (further field (second_in (found (at ∷ filter p (entries (at + size) size n)))))
      (λ k. (s : ℕ) × IsLater p (at ∷ entries (at + size) size n) s × (k ≡ s + field))
      (first_found field p (entries (at + size) size n) ∙ sym (second_after field at (filter p (entries (at + size) size n))))
      (finds_as (further field (find p (entries (at + size) size n)))
      (λ k. (x : ℕ) × Contains (entries (at + size) size n) x × (p x ≡ true) × (k ≡ x + field))
      (λ k. (s : ℕ) × IsLater p (at ∷ entries (at + size) size n) s × (k ≡ s + field))
      to from (finds_first p field (at + size) size n lt)) where
        to : (k : ℕ) → (x : ℕ) × Contains (entries (at + size) size n) x × (p x ≡ true) × (k ≡ x + field) → (s : ℕ)
            × IsLater p (at ∷ entries (at + size) size n) s × (k ≡ s + field)
        to k (x, there, passed, same) = (
          x,
          (
            (has_later at x (entries (at + size) size n) there, passed),
            at,
            (has_first at (entries (at + size) size n), is),
            omega (arith, entry_from (at + size) size n x there, lt),
          ),
          same,
        )

        from : (k : ℕ) → (s : ℕ) × IsLater p (at ∷ entries (at + size) size n) s × (k ≡ s + field) → (x : ℕ)
            × Contains (entries (at + size) size n) x × (p x ≡ true) × (k ≡ x + field)
        from k (s, ((there, passed), t, (t_there, t_is), below), same) = elim (first_or_later at s (entries (at + size) size n) there) [
          | inl is_first ↦ absurd (omega (arith, is_first, below, entry_from at size (suc n) t t_there))
          | inr later ↦ (s, later, passed, same)
        ]
  by false is ih =
      finds_as (further field (second_in (found (filter p (entries (at + size) size n)))))
      (λ k. (s : ℕ) × IsLater p (entries (at + size) size n) s × (k ≡ s + field))
      (λ k. (s : ℕ) × IsLater p (at ∷ entries (at + size) size n) s × (k ≡ s + field))
      to from ih where
        to : (k : ℕ) → (s : ℕ) × IsLater p (entries (at + size) size n) s × (k ≡ s + field) → (s : ℕ)
            × IsLater p (at ∷ entries (at + size) size n) s × (k ≡ s + field)
        to k (s, ((there, passed), t, (t_there, t_is), below), same) = (
          s,
          (
            (has_later at s (entries (at + size) size n) there, passed),
            t,
            (has_later at t (entries (at + size) size n) t_there, t_is),
            below,
          ),
          same,
        )

        other : (s : ℕ) → Contains (at ∷ entries (at + size) size n) s → p s ≡ true → Contains (entries (at + size) size n) s
        other s there passed = elim (first_or_later at s (entries (at + size) size n) there) [
          | inl is_first ↦ absurd (let never : p s ≡ false = ap p (sym is_first) ∙ is in cc)
          | inr later ↦ later
        ]

        from : (k : ℕ) → (s : ℕ) × IsLater p (at ∷ entries (at + size) size n) s × (k ≡ s + field) → (s : ℕ)
            × IsLater p (entries (at + size) size n) s × (k ≡ s + field)
        from k (s, ((there, passed), t, (t_there, t_is), below), same) =
            (s, ((other s there passed, passed), t, (other t t_there t_is, t_is), below), same)

-- ---- the lowest of what the elements of a list give

module _ {A : Type 0} (f : A → Option ℕ) (P : A → ℕ → Type 0) (each : (x : A) → Finds (f x) (P x)) where
  finds_from : (o : Option ℕ) (Q : ℕ → Type 0) (xs : List A) → Finds o Q → Finds (fold (λ lowest x. lowest or_lower f x) o xs)
      (λ k. Q k ⊎ ((x : A) × Contains xs x × P x k))
  finds_from o Q [] h = finds_as o Q (λ k. Q k ⊎ ((x : A) × Contains [] x × P x k)) (λ k q. inl q)
      (λ k e. elim e [ inl q ↦ q | inr x ↦ absurd (has_none x.0 x.1) ]) h
  finds_from o Q (x ∷ xs) h =
      finds_as (fold (λ lowest y. lowest or_lower f y) (o or_lower f x) xs) (λ k. (Q k ⊎ P x k) ⊎ ((y : A) × Contains xs y × P y k))
      (λ k. Q k ⊎ ((y : A) × Contains (x ∷ xs) y × P y k))
      to from (finds_from (o or_lower f x) (λ k. Q k ⊎ P x k) xs (finds_lower o (f x) Q (P x) h (each x))) where
        to : (k : ℕ) → (Q k ⊎ P x k) ⊎ ((y : A) × Contains xs y × P y k) → Q k ⊎ ((y : A) × Contains (x ∷ xs) y × P y k)
        to k (inl (inl q)) = inl q
        to k (inl (inr p)) = inr (x, has_first x xs, p)
        to k (inr (y, there, p)) = inr (y, has_later x y xs there, p)

        from : (k : ℕ) → Q k ⊎ ((y : A) × Contains (x ∷ xs) y × P y k) → (Q k ⊎ P x k) ⊎ ((y : A) × Contains xs y × P y k)
        from k (inl q) = inl (inl q)
        from k (inr (y, there, p)) = elim (first_or_later x y xs there) [
          | inl is ↦ inl (inr (subst (λ (z : A). P z k) (sym is) p))
          | inr later ↦ inr (y, later, p)
        ]

  pub finds_fold : (xs : List A) → Finds (fold (λ lowest x. lowest or_lower f x) None xs) (λ k. (x : A) × Contains xs x × P x k)
  finds_fold xs = finds_as (fold (λ lowest x. lowest or_lower f x) None xs) (λ k. ⊥ ⊎ ((x : A) × Contains xs x × P x k))
      (λ k. (x : A) × Contains xs x × P x k) (λ k e. elim e [ inl never ↦ absurd never | inr h ↦ h ]) (λ k h. inr h)
      (finds_from None (λ k. ⊥) xs (λ k never. never))
