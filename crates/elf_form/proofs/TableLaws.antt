-- Walks over a table, entry by entry.
use Rattle.std.proofs.Common.{◌≡◌, ℕ, zero, suc, ◌+◌, ◌-◌, ◌*◌, ◌<◌, ◌≤◌, Bool, true, false, cond, List, [], ◌∷◌, Option, Some, None, refl, ap, ◌∙◌, arith}
use Rattle.std.specs.Prelude.{filter}
use Rattle.std.specs.List.{find}
use Rattle.std.specs.Option.{option_or}
use Rattle.std.proofs.lemmas.Bool.{cond-true, cond-false}
use Rattle.elf_form.specs.declared.segments.Found.{Found}
use Rattle.elf_form.specs.declared.segments.Found.TheVariants.{Nothing, One, Two, More}
use Rattle.elf_form.specs.Tables.{entries, found, first_some}
use Rattle.elf_form.specs.Finding.{with_one}
use Rattle.elf_form.specs.Whole.{AllFound}

-- what is left at the entry i, and one further on
pub entries-more : (at k n i : ℕ) → i < n → entries (at + k * i) k (n - i) ≡ (at + k * i) ∷ entries (at + k * (i + 1)) k (n - (i + 1))
unfolding entries
entries-more at k n i lt =
    let left : n - i ≡ suc (n - (i + 1)) = omega arith in
    let next : at + k * i + k ≡ at + k * (i + 1) = grind arith in
    rw left (ap (λ (a : ℕ). (at + k * i) ∷ entries a k (n - (i + 1))) next)

pub entries-end : (at k n i : ℕ) → n ≤ i → entries (at + k * i) k (n - i) ≡ []
unfolding entries
entries-end at k n i le =
    let left : n - i ≡ 0 = omega arith in
    rw left refl

pub entries-start : (at k n : ℕ) → entries (at + k * 0) k (n - 0) ≡ entries at k n
entries-start at k n =
    let a : at + k * 0 ≡ at = grind arith in
    let b : n - 0 ≡ n = omega arith in
    rw (a, b) refl

pub find-here : (p : ℕ → Bool) (at k n i : ℕ) → i < n → p (at + k * i) ≡ true → find p (entries (at + k * i) k (n - i)) ≡ Some (at + k * i)
find-here p at k n i lt here = ap (find p) (entries-more at k n i lt) ∙ cond-true _ _ _ here

pub find-next : (p : ℕ → Bool) (at k n i : ℕ) → i < n → p (at + k * i) ≡ false → find p (entries (at + k * i) k (n - i)) ≡ find p
    (entries (at + k * (i + 1)) k (n - (i + 1)))
find-next p at k n i lt not_here = ap (find p) (entries-more at k n i lt) ∙ cond-false _ _ _ not_here

pub find-end : (p : ℕ → Bool) (at k n i : ℕ) → n ≤ i → find p (entries (at + k * i) k (n - i)) ≡ None
find-end p at k n i le = ap (find p) (entries-end at k n i le)

passed_by : (p : ℕ → Bool) (x : ℕ) (xs : List ℕ) → find p (x ∷ xs) ≡ None → (p x ≡ false) × (find p xs ≡ None)
passed_by p x xs e = split (p x) refl e where
  split : (b : Bool) → p x ≡ b → cond b (Some x) (find p xs) ≡ None → (p x ≡ false) × (find p xs ≡ None)
  split true is h = absurd cc
  split false is h = (is, h)

-- no entry passes
pub none_passes : (p : ℕ → Bool) (at k n i : ℕ) → find p (entries at k n) ≡ None → i < n → p (at + k * i) ≡ false
unfolding entries
none_passes p at k zero i e lt = absurd (omega arith)
none_passes p at k (suc n) zero e lt =
    let start : at + k * 0 ≡ at = grind arith in
    rw start ((passed_by p at (entries (at + k) k n) e).0)
none_passes p at k (suc n) (suc i) e lt =
    let place : at + k + k * i ≡ at + k * suc i = grind arith in
    rw (← place) (none_passes p (at + k) k n i ((passed_by p at (entries (at + k) k n) e).1) (omega arith))

-- ---- the first two

abbrev pub found_on : Found → List ℕ → Found
found_on f [] = f
found_on f (x ∷ xs) = found_on (with_one f x) xs

more_stays : (a b : ℕ) (xs : List ℕ) → found_on (More a b) xs ≡ More a b
more_stays a b [] = refl
more_stays a b (x ∷ xs) = more_stays a b xs

pub found_on-all : (xs : List ℕ) → found_on Nothing xs ≡ found xs
unfolding found
found_on-all [] = refl
found_on-all (a ∷ []) = refl
found_on-all (a ∷ b ∷ []) = refl
found_on-all (a ∷ b ∷ c ∷ rest) = more_stays a b rest

pub found-here : (p : ℕ → Bool) (f : Found) (at k n i : ℕ) → i < n → p (at + k * i) ≡ true
    → found_on f (filter p (entries (at + k * i) k (n - i))) ≡ found_on (with_one f (at + k * i))
    (filter p (entries (at + k * (i + 1)) k (n - (i + 1))))
found-here p f at k n i lt here = rw (entries-more at k n i lt) (ap (found_on f) (cond-true _ _ _ here))

pub found-next : (p : ℕ → Bool) (f : Found) (at k n i : ℕ) → i < n → p (at + k * i) ≡ false
    → found_on f (filter p (entries (at + k * i) k (n - i))) ≡ found_on f (filter p (entries (at + k * (i + 1)) k (n - (i + 1))))
found-next p f at k n i lt not_here = rw (entries-more at k n i lt) (ap (found_on f) (cond-false _ _ _ not_here))

pub found-end : (p : ℕ → Bool) (f : Found) (at k n i : ℕ) → n ≤ i → found_on f (filter p (entries (at + k * i) k (n - i))) ≡ f
found-end p f at k n i le = rw (entries-end at k n i le) refl

pub AllFound-with : (P : ℕ → Type 0) (f : Found) (at : ℕ) → AllFound P f → P at → AllFound P (with_one f at)
AllFound-with P Nothing at all here = here
AllFound-with P (One a) at all here = (all, here)
AllFound-with P (Two a b) at all here = all
AllFound-with P (More a b) at all here = all

-- ---- the first place that an entry gives

pub first_some-here : (f : ℕ → Option ℕ) (at k n i place : ℕ) → i < n → f (at + k * i) ≡ Some place
    → first_some f (entries (at + k * i) k (n - i)) ≡ Some place
unfolding first_some
first_some-here f at k n i place lt is =
    ap (first_some f) (entries-more at k n i lt) ∙ ap (λ o. option_or o (first_some f (entries (at + k * (i + 1)) k (n - (i + 1))))) is

pub first_some-next : (f : ℕ → Option ℕ) (at k n i : ℕ) → i < n → f (at + k * i) ≡ None
    → first_some f (entries (at + k * i) k (n - i)) ≡ first_some f (entries (at + k * (i + 1)) k (n - (i + 1)))
unfolding first_some
first_some-next f at k n i lt is =
    ap (first_some f) (entries-more at k n i lt) ∙ ap (λ o. option_or o (first_some f (entries (at + k * (i + 1)) k (n - (i + 1))))) is

pub first_some-end : (f : ℕ → Option ℕ) (at k n i : ℕ) → n ≤ i → first_some f (entries (at + k * i) k (n - i)) ≡ None
unfolding first_some
first_some-end f at k n i le = ap (first_some f) (entries-end at k n i le)

-- ---- filtered entries

pub filter-here : (p : ℕ → Bool) (at k n i : ℕ) → i < n → p (at + k * i) ≡ true
    → filter p (entries (at + k * i) k (n - i)) ≡ (at + k * i) ∷ filter p (entries (at + k * (i + 1)) k (n - (i + 1)))
filter-here p at k n i lt here = rw (entries-more at k n i lt) (cond-true _ _ _ here)

pub filter-next : (p : ℕ → Bool) (at k n i : ℕ) → i < n → p (at + k * i) ≡ false → filter p (entries (at + k * i) k (n - i)) ≡ filter p
    (entries (at + k * (i + 1)) k (n - (i + 1)))
filter-next p at k n i lt not_here = rw (entries-more at k n i lt) (cond-false _ _ _ not_here)

pub filter-end : (p : ℕ → Bool) (at k n i : ℕ) → n ≤ i → filter p (entries (at + k * i) k (n - i)) ≡ []
filter-end p at k n i le = rw (entries-end at k n i le) refl
