-- Tables that were written entry by entry, and what is read of them.
use Rattle.std.proofs.Common.{◌≡◌, ℕ, zero, suc, ◌+◌, ◌*◌, ◌<◌, Bool, true, List, [], ◌∷◌, ◌++◌, length, get_or, map, Option, None, refl, sym, ap, ◌∙◌, subst, arith, append_assoc}
use Rattle.std.specs.Prelude.{filter, fold}
use Rattle.std.specs.List.{flat_map, AllByRecursion}
use Rattle.std.proofs.lemmas.Bool.{cond-true}
use Rattle.std.proofs.lemmas.List.{length-append}
use Rattle.elf_form.specs.Faults.{◌or_lower◌}
use Rattle.elf_form.specs.Tables.{entries, first_some}
use Rattle.elf_form.specs.Symbols.{is_listed, numbers}

-- P holds of each element and of the place of its entry, the first at at, each k bytes on
abbrev pub EachAt : {X : Type 0} → (ℕ → X → Type 0) → ℕ → ℕ → List X → Type 0
EachAt P k at [] = Unit {0}
EachAt P k at (x ∷ xs) = P at x × EachAt P k (at + k) xs

pub each-weaker : {X : Type 0} (P Q : ℕ → X → Type 0) (k at : ℕ) (xs : List X) → ((y : ℕ) (x : X) → P y x → Q y x)
    → EachAt P k at xs → EachAt Q k at xs
each-weaker P Q k at [] weaker each = tt
each-weaker P Q k at (x ∷ xs) weaker each = (weaker at x (each.0), each-weaker P Q k (at + k) xs weaker (each.1))

pub each-at : {X : Type 0} (P : ℕ → X → Type 0) (k at : ℕ) (xs : List X) (i : ℕ) (d : X) → i < length xs → EachAt P k at xs
    → P (at + k * i) (get_or xs i d)
each-at P k at [] i d lt each = absurd (omega arith)
each-at P k at (x ∷ xs) zero d lt each =
    let start : at + k * 0 ≡ at = grind arith in
    subst (λ y. P y x) (sym start) (each.0)
each-at P k at (x ∷ xs) (suc i) d lt each =
    let place : at + k + k * i ≡ at + k * suc i = grind arith in
    subst (λ y. P y (get_or xs i d)) place (each-at P k (at + k) xs i d (omega arith) (each.1))

-- what holds of each entry that stands between other bytes holds of the entries of a list
module _ {X : Type 0} (f : X → List ℕ) (k : ℕ) (Q : X → Type 0) (P : List ℕ → ℕ → X → Type 0) (size : (x : X) → length (f x) ≡ k)
    (step : (before after : List ℕ) (x : X) (y : ℕ) → length before ≡ y → Q x → P (before ++ (f x ++ after)) y x) where
  pub each-written : (xs : List X) (before after : List ℕ) (at : ℕ) → length before ≡ at → AllByRecursion Q xs
      → EachAt (P (before ++ (flat_map f xs ++ after))) k at xs
  each-written [] before after at len all = tt
  each-written (x ∷ xs) before after at len all =
      let head : before ++ (f x ++ (flat_map f xs ++ after)) ≡ before ++ ((f x ++ flat_map f xs) ++ after) =
      ap (λ (t : List ℕ). before ++ t) (sym (append_assoc (f x) (flat_map f xs) after)) in
      let tail : (before ++ f x) ++ (flat_map f xs ++ after) ≡ before ++ ((f x ++ flat_map f xs) ++ after) =
      append_assoc before (f x) (flat_map f xs ++ after) ∙ head in (
        subst (λ (b : List ℕ). P b at x) head (step before (flat_map f xs ++ after) x at len (all.0)),
        subst (λ (b : List ℕ). EachAt (P b) k (at + k) xs) tail
            (each-written xs (before ++ f x) after (at + k) (omega (arith, length-append before (f x), size x)) (all.1)),
      )

-- ---- what is read of the entries

pub first_some-each : {X : Type 0} (g : ℕ → Option ℕ) (k at : ℕ) (xs : List X) → EachAt (λ y x. g y ≡ None) k at xs
    → first_some g (entries at k (length xs)) ≡ None
unfolding first_some entries
first_some-each g k at [] each = refl
first_some-each g k at (x ∷ xs) each = rw (each.0) (first_some-each g k (at + k) xs (each.1))

pub listed-each : {X : Type 0} (p : ℕ → Bool) (g : ℕ → X) (k at : ℕ) (xs : List X) → EachAt (λ y x. (p y ≡ true) × (g y ≡ x)) k at xs
    → map g (filter p (entries at k (length xs))) ≡ xs
unfolding entries
listed-each p g k at [] each = refl
listed-each p g k at (x ∷ xs) each =
    ap (map g) (cond-true _ _ _ (each.0.0)) ∙ ap (λ (z : _). z ∷ map g (filter p (entries (at + k) k (length xs)))) (each.0.1)
    ∙ ap (λ (zs : _). x ∷ zs) (listed-each p g k (at + k) xs (each.1))

pub map-each : {X Y : Type 0} (h : ℕ → Y) (g : Y → X) (k at : ℕ) (xs : List X) → EachAt (λ y x. g (h y) ≡ x) k at xs
    → map g (map h (entries at k (length xs))) ≡ xs
unfolding entries
map-each h g k at [] each = refl
map-each h g k at (x ∷ xs) each = ap (λ (z : _). z ∷ map g (map h (entries (at + k) k (length xs)))) (each.0)
    ∙ ap (λ (zs : _). x ∷ zs) (map-each h g k (at + k) xs (each.1))

pub lowest-each : {X Y : Type 0} (h : ℕ → Y) (t : Y → Option ℕ) (k at : ℕ) (xs : List X) → EachAt (λ y x. t (h y) ≡ None) k at xs
    → fold (λ lowest e. lowest or_lower t e) None (map h (entries at k (length xs))) ≡ None
unfolding entries
lowest-each h t k at [] each = refl
lowest-each h t k at (x ∷ xs) each =
    ap (λ (o : Option ℕ). fold (λ lowest e. lowest or_lower t e) o (map h (entries (at + k) k (length xs)))) (each.0)
    ∙ lowest-each h t k (at + k) xs (each.1)

-- where each symbol is listed, the number of the symbol i is i more than that of the first
pub numbers-each : {X : Type 0} (names bytes : List ℕ) (n k at : ℕ) (xs : List X) (i : ℕ) → EachAt (λ y x. is_listed names bytes y ≡ true) k
    at xs → i < length xs → get_or (numbers names bytes n (entries at k (length xs))) i 0 ≡ n + i
unfolding numbers entries
numbers-each names bytes n k at [] i each lt = absurd (omega arith)
numbers-each names bytes n k at (x ∷ xs) zero each lt = omega arith
numbers-each names bytes n k at (x ∷ xs) (suc i) each lt =
    ap (λ (m : ℕ). get_or (numbers names bytes m (entries (at + k) k (length xs))) i 0) (cond-true _ _ _ (each.0))
    ∙ numbers-each names bytes (n + 1) k (at + k) xs i (each.1) (omega arith) ∙ omega arith
