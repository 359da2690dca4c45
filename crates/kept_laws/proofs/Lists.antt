-- Lists of steps: their splits, what their walks read, and the values that they loaded.
use Rattle.std.proofs.Common.{◌≡◌, ℕ, List, [], ◌∷◌, ◌++◌, Bool, true, false, ◌||◌, eqb, append_assoc, refl, sym, ap, subst, ◌∙◌}
use Rattle.std.specs.List.{list_any, Contains, All}
use Rattle.std.specs.Set.{is_member}
use Rattle.std.proofs.lemmas.List.Elements.{All-head, All-tail, All-cons, All-nil}
use Rattle.guest_ram.specs.Among.{is_among}
use Rattle.machine_model.specs.Taken.{Taken}
use Rattle.machine_model.specs.Keeping.{root_in, roots_in, tables_in}
use Rattle.kept_laws.specs.Remembered.{was_read, Unwritten}

-- ---- splits

-- one more after a split
pub split_more : (l : List Taken) (x : Taken) (a : List Taken) (y : Taken) (b : List Taken) → l ≡ a ++ y ∷ b → l ++ x ∷ [] ≡ a
    ++ y ∷ (b ++ x ∷ [])
split_more l x a y b e = ap (λ (k : List Taken). k ++ x ∷ []) e ∙ append_assoc a (y ∷ b) (x ∷ [])

-- ---- all of a list

pub all_front : {X : Type 0} (P : X → Type 0) (xs ys : List X) → All P (xs ++ ys) → All P xs
all_front P [] ys h = All-nil P
all_front P (x ∷ xs) ys h = All-cons P x xs (All-head P x (xs ++ ys) h) (all_front P xs ys (All-tail P x (xs ++ ys) h))

pub all_end : {X : Type 0} (P : X → Type 0) (xs : List X) (y : X) → All P (xs ++ y ∷ []) → P y
all_end P [] y h = All-head P y [] h
all_end P (x ∷ xs) y h = all_end P xs y (All-tail P x (xs ++ y ∷ []) h)

pub all_at : {X : Type 0} (P : X → Type 0) (xs : List X) (x : X) → All P xs → Contains xs x → P x
all_at P xs x h c = subst P c.2 (h c.0 x c.1)

-- ---- one of a list

pub any_left : {X : Type 0} (test : X → Bool) (xs ys : List X) → list_any test xs ≡ true → list_any test (xs ++ ys) ≡ true
any_left test [] ys h = absurd (let e : false ≡ true = h in cc)
any_left test (x ∷ xs) ys h = by (test x) h (any_left test xs ys)
  where
    by : (b : Bool) → (b || list_any test xs) ≡ true → (list_any test xs ≡ true → list_any test (xs ++ ys) ≡ true)
        → (b || list_any test (xs ++ ys)) ≡ true
    by true h k = refl
    by false h k = k h

pub any_right : {X : Type 0} (test : X → Bool) (xs ys : List X) → list_any test ys ≡ true → list_any test (xs ++ ys) ≡ true
any_right test [] ys h = h
any_right test (x ∷ xs) ys h = by (test x) (any_right test xs ys h)
  where
    by : (b : Bool) → list_any test (xs ++ ys) ≡ true → (b || list_any test (xs ++ ys)) ≡ true
    by true h = refl
    by false h = h

any_over : {X : Type 0} (test : X → Bool) (xs ys zs : List X) → (list_any test ys ≡ true → list_any test zs ≡ true)
    → list_any test (xs ++ ys) ≡ true → list_any test (xs ++ zs) ≡ true
any_over test [] ys zs f h = f h
any_over test (x ∷ xs) ys zs f h = by (test x) (any_over test xs ys zs f) h
  where
    by : (b : Bool) → (list_any test (xs ++ ys) ≡ true → list_any test (xs ++ zs) ≡ true) → (b || list_any test (xs ++ ys)) ≡ true
        → (b || list_any test (xs ++ zs)) ≡ true
    by true k h = refl
    by false k h = k h

-- ---- frames that were read

pub read_more : (xs : List Taken) (t : Taken) (f : ℕ) → was_read xs f ≡ true → was_read (xs ++ t ∷ []) f ≡ true
read_more [] t f h = absurd (let e : false ≡ true = h in cc)
read_more (x ∷ xs) t f h = any_over (eqb f) x.report.tables (tables_in xs) (tables_in (xs ++ t ∷ [])) (read_more xs t f) h

pub read_last : (xs : List Taken) (t : Taken) (f : ℕ) → is_among f t.report.tables ≡ true → was_read (xs ++ t ∷ []) f ≡ true
read_last [] t f h = any_left (eqb f) t.report.tables [] h
read_last (x ∷ xs) t f h = any_right (eqb f) x.report.tables (tables_in (xs ++ t ∷ [])) (read_last xs t f h)

pub unwritten_front : (xs : List Taken) (t : Taken) → Unwritten (xs ++ t ∷ []) → Unwritten xs
unwritten_front xs t h = λ front u back e. h front u (back ++ t ∷ []) (split_more xs t front u back e)

-- ---- values that were loaded

append_nil : (xs : List ℕ) → xs ++ [] ≡ xs
append_nil [] = refl
append_nil (x ∷ xs) = ap (λ (l : List ℕ). x ∷ l) (append_nil xs)

pub roots_more : (xs : List Taken) (t : Taken) → roots_in (xs ++ t ∷ []) ≡ roots_in xs ++ root_in t
roots_more [] t = append_nil (root_in t)
roots_more (x ∷ xs) t = ap (λ (l : List ℕ). root_in x ++ l) (roots_more xs t) ∙ sym (append_assoc (root_in x) (roots_in xs) (root_in t))

pub loaded_more : (xs : List Taken) (t : Taken) (v : ℕ) → is_member eqb (roots_in xs) v ≡ true
    → is_member eqb (roots_in (xs ++ t ∷ [])) v ≡ true
loaded_more xs t v h =
    subst (λ (l : List ℕ). is_member eqb l v ≡ true) (sym (roots_more xs t)) (any_left (eqb v) (roots_in xs) (root_in t) h)
