-- How many distinct numbers a list has.
use Rattle.std.proofs.Common.{◌≡◌, ℕ, ◌≤◌, List, [], ◌∷◌, ◌++◌, length, Bool, true, false, cond, not, ◌||◌, ◌==◌, eqb, refl, sym, ap, subst, ◌∙◌, ◌⊎◌, inl, inr}
use Rattle.std.specs.List.{filter, IsDistinct, AllByRecursion}
use Rattle.std.specs.Set.{is_member, unique_keys, distinct_count}
use Rattle.std.specs.Cmp.{IsEquivalence}
use Rattle.std.proofs.lemmas.Map.Made.{length-le_from_is_member}
use Rattle.std.proofs.lemmas.Bool.{eqb-true, eq-eqb, false_from_ne_true}
use Rattle.shadow_tables.specs.Laws.Openings.{unique-member, member-next, member-or, eqb-turned}

pub clash : {P : Type 0} → (b : Bool) → b ≡ true → b ≡ false → P
clash b e f = absurd (let g : b ≡ true = e in cc)

same_test : (x y z : ℕ) → eqb x y ≡ true → eqb x z ≡ eqb y z
same_test x y z h = ap (λ (v : ℕ). eqb v z) (eqb-true x y h)

equal : IsEquivalence eqb
equal = record { refl = λ x. eq-eqb x x refl; symm = eqb-turned; congr = same_test }

-- ---- members

pub member_first : (x : ℕ) (xs : List ℕ) → is_member eqb (x ∷ xs) x ≡ true
member_first x xs = ap (λ b. b || is_member eqb xs x) (eq-eqb x x refl)

-- ---- each once

unique_only : (xs : List ℕ) (q : ℕ) → is_member eqb (unique_keys eqb xs) q ≡ true → is_member eqb xs q ≡ true
unique_only [] q h = h
unique_only (x ∷ xs) q h = by (is_member eqb xs x) (unique_only xs q) h
  where
    by : (b : Bool) → (is_member eqb (unique_keys eqb xs) q ≡ true → is_member eqb xs q ≡ true)
        → is_member eqb (cond b (unique_keys eqb xs) (x ∷ unique_keys eqb xs)) q ≡ true → is_member eqb (x ∷ xs) q ≡ true
    by true k h = member-next x xs q (k h)
    by false k h = elim (member-or x (unique_keys eqb xs) q h) [
      | inl e ↦ subst (λ (v : ℕ). is_member eqb (x ∷ xs) v ≡ true) (sym e) (member_first x xs)
      | inr m ↦ member-next x xs q (k m)
    ]

pub absent_apart : (xs : List ℕ) (x : ℕ) → is_member eqb xs x ≡ false → AllByRecursion (λ y. eqb x y ≡ false) xs
absent_apart [] x h = tt
absent_apart (y ∷ ys) x h = (
  false_from_ne_true (eqb x y) (λ e. clash true refl (sym (ap (λ b. b || is_member eqb ys x) e) ∙ h)),
  absent_apart ys x (false_from_ne_true (is_member eqb ys x) (λ e. clash true refl (sym (member-next y ys x e) ∙ h))),
)

unique_distinct : (xs : List ℕ) → IsDistinct eqb (unique_keys eqb xs)
unfolding IsDistinct
unique_distinct [] = tt
unique_distinct (x ∷ xs) = by (is_member eqb xs x) refl (unique_distinct xs)
  where
    by : (b : Bool) → is_member eqb xs x ≡ b → IsDistinct eqb (unique_keys eqb xs)
        → IsDistinct eqb (cond b (unique_keys eqb xs) (x ∷ unique_keys eqb xs))
    by true is k = k
    by false is k =
        (absent_apart (unique_keys eqb xs) x (false_from_ne_true _ (λ m. clash (is_member eqb xs x) (unique_only xs x m) is)), k)

-- distinct numbers that are all in a list are no more than it has
pub no_more : (seen pool : List ℕ) → IsDistinct eqb seen → ((q : ℕ) → is_member eqb seen q ≡ true → is_member eqb pool q ≡ true)
    → length seen ≤ distinct_count eqb pool
no_more seen pool d h = length-le_from_is_member equal seen (unique_keys eqb pool) d (λ q m. unique-member pool q (h q m))

pub fewer : (xs ys : List ℕ) → ((q : ℕ) → is_member eqb xs q ≡ true → is_member eqb ys q ≡ true)
    → distinct_count eqb xs ≤ distinct_count eqb ys
fewer xs ys h = no_more (unique_keys eqb xs) ys (unique_distinct xs) (λ q m. h q (unique_only xs q m))

-- ---- all but one number

abbrev pub but : ℕ → List ℕ → List ℕ
but c xs = filter (λ value. not (value == c)) xs

pub but_member : (c : ℕ) (xs : List ℕ) (q : ℕ) → (q ≡ c → ⊥) → is_member eqb xs q ≡ true → is_member eqb (but c xs) q ≡ true
but_member c [] q ne h = h
but_member c (x ∷ xs) q ne h = by (x == c) refl (but_member c xs q ne) (member-or x xs q h)
  where
    by : (b : Bool) → (x == c) ≡ b → (is_member eqb xs q ≡ true → is_member eqb (but c xs) q ≡ true) → (q ≡ x) ⊎ (is_member eqb xs q ≡ true)
        → is_member eqb (cond (not b) (x ∷ but c xs) (but c xs)) q ≡ true
    by true is k (inl e) = absurd (ne (e ∙ eqb-true x c is))
    by true is k (inr m) = k m
    by false is k (inl e) = subst (λ (v : ℕ). is_member eqb (x ∷ but c xs) v ≡ true) (sym e) (member_first x (but c xs))
    by false is k (inr m) = member-next x (but c xs) q (k m)

but_more : (c : ℕ) (xs ys : List ℕ) (q : ℕ) → is_member eqb (but c xs) q ≡ true → is_member eqb (but c (xs ++ ys)) q ≡ true
but_more c [] ys q h = absurd (let e : false ≡ true = h in cc)
but_more c (x ∷ xs) ys q h = by (x == c) (but_more c xs ys q) h
  where
    by : (b : Bool) → (is_member eqb (but c xs) q ≡ true → is_member eqb (but c (xs ++ ys)) q ≡ true)
        → is_member eqb (cond (not b) (x ∷ but c xs) (but c xs)) q ≡ true
        → is_member eqb (cond (not b) (x ∷ but c (xs ++ ys)) (but c (xs ++ ys))) q ≡ true
    by true k h = k h
    by false k h = elim (member-or x (but c xs) q h) [
      | inl e ↦ subst (λ (v : ℕ). is_member eqb (x ∷ but c (xs ++ ys)) v ≡ true) (sym e) (member_first x (but c (xs ++ ys)))
      | inr m ↦ member-next x (but c (xs ++ ys)) q (k m)
    ]

-- with more after them they are no fewer
pub few_front : (c : ℕ) (xs ys : List ℕ) → distinct_count eqb (but c xs) ≤ distinct_count eqb (but c (xs ++ ys))
few_front c xs ys = fewer (but c xs) (but c (xs ++ ys)) (but_more c xs ys)
