-- What is kept for values of CR3, through the calls that change it.
use Rattle.std.proofs.Common.{◌≡◌, ℕ, zero, suc, ◌+◌, ◌≤◌, List, [], ◌∷◌, ◌++◌, length, take, Bool, true, false, cond, not, ◌||◌, ◌==◌, eqb, Option, Some, None, refl, sym, ap, subst, ◌∙◌, inl, inr, arith}
use Rattle.std.specs.Prelude.{filter}
use Rattle.std.specs.List.{All, IsDistinct, list_any}
use Rattle.std.specs.Set.{is_member, distinct_count}
use Rattle.std.proofs.lemmas.List.Elements.{All-head, All-tail}
use Rattle.std.proofs.lemmas.Bool.{eqb-true, eqb-false, eq-eqb, ne_eqb}
use Rattle.shadow_tables.specs.OtherRoot.{OtherRoot, AreSame, LoseWrites, all_spared}
use Rattle.shadow_tables.specs.Entries.{entries_of}
use Rattle.shadow_tables.specs.Laws.Entries.{entries_of-same, entries_of-barred}
use Rattle.shadow_tables.specs.Laws.Openings.{member-or}
use Rattle.shadow_cache.specs.Reloaded.{of_cr3, but_cr3, or_begun, coming, beside_coming, staying}
use Rattle.machine_model.specs.Taken.{Taken}
use Rattle.kept_laws.specs.Remembered.{ComesFrom, was_read, IsAbsent, AreOfOne, AllRead, IsThere}
use Rattle.kept_laws.proofs.Lists.{read_more}
use Rattle.kept_laws.proofs.Counts.{clash, but, but_member, absent_apart, no_more}

-- ---- the same translations

abbrev pub AreAlike : (olds news : List OtherRoot) → Type 0
AreAlike [] [] = Unit {0}
AreAlike [] (b ∷ ys) = ⊥
AreAlike (a ∷ xs) [] = ⊥
AreAlike (a ∷ xs) (b ∷ ys) =
    (b.cr3 ≡ a.cr3) × ((f : ℕ) → b.tables f ≡ a.tables f) × (entries_of b.slots ≡ entries_of a.slots) × AreAlike xs ys

pub same_alike : (xs ys : List OtherRoot) → AreSame xs ys → AreAlike xs ys
same_alike [] [] h = tt
same_alike [] (b ∷ ys) h = h
same_alike (a ∷ xs) [] h = h
same_alike (a ∷ xs) (b ∷ ys) h = (h.0.cr3, h.0.tables, entries_of-same a.slots b.slots h.0.slots, same_alike xs ys h.1)

pub lose_alike : (frames : List ℕ) (xs ys : List OtherRoot) → LoseWrites frames xs ys → AreAlike xs ys
lose_alike frames [] [] h = tt
lose_alike frames [] (b ∷ ys) h = h
lose_alike frames (a ∷ xs) [] h = h
lose_alike frames (a ∷ xs) (b ∷ ys) h =
    (h.0.cr3, h.0.tables, entries_of-barred a.slots b.slots frames h.0.slots, lose_alike frames xs ys h.1)

pub alike_absent : (v : ℕ) (xs ys : List OtherRoot) → AreAlike xs ys → IsAbsent v xs → IsAbsent v ys
alike_absent v [] [] h k = tt
alike_absent v [] (b ∷ ys) h k = absurd h
alike_absent v (a ∷ xs) [] h k = tt
alike_absent v (a ∷ xs) (b ∷ ys) h k = (λ e. k.0 (sym h.0 ∙ e), alike_absent v xs ys h.3 k.1)

pub alike_of_one : (xs ys : List OtherRoot) → AreAlike xs ys → AreOfOne xs → AreOfOne ys
alike_of_one [] [] h k = tt
alike_of_one [] (b ∷ ys) h k = absurd h
alike_of_one (a ∷ xs) [] h k = tt
alike_of_one (a ∷ xs) (b ∷ ys) h k =
    (alike_absent b.cr3 xs ys h.3 (subst (λ (v : ℕ). IsAbsent v xs) (sym h.0) k.0), alike_of_one xs ys h.3 k.1)

pub alike_read : (steps : List Taken) (xs ys : List OtherRoot) → AreAlike xs ys → AllRead steps xs → AllRead steps ys
alike_read steps [] [] h k = tt
alike_read steps [] (b ∷ ys) h k = absurd h
alike_read steps (a ∷ xs) [] h k = tt
alike_read steps (a ∷ xs) (b ∷ ys) h k = (λ f e. k.0 f (sym (h.1 f) ∙ e), alike_read steps xs ys h.3 k.1)

pub alike_there : (c : ℕ) (left : Taken) (loaded : List ℕ) (xs ys : List OtherRoot) → AreAlike xs ys → IsThere c left loaded xs
    → IsThere c left loaded ys
alike_there c left loaded [] ys h k = absurd k
alike_there c left loaded (a ∷ xs) [] h k = absurd h
alike_there c left loaded (a ∷ xs) (b ∷ ys) h (inl k) =
    inl (h.0 ∙ k.0, subst (ComesFrom left) (sym h.2) k.1)
alike_there c left loaded (a ∷ xs) (b ∷ ys) h (inr k) =
    inr (λ e. k.0 (sym h.0 ∙ e), subst (λ (v : ℕ). is_member eqb loaded v ≡ true) (sym h.0) k.1, alike_there c left loaded xs ys h.3 k.2)

-- ---- some of them

pub filter_absent : (test : OtherRoot → Bool) (v : ℕ) (xs : List OtherRoot) → IsAbsent v xs → IsAbsent v (filter test xs)
filter_absent test v [] h = tt
filter_absent test v (a ∷ xs) h = by (test a) (filter_absent test v xs h.1)
  where
    by : (b : Bool) → IsAbsent v (filter test xs) → IsAbsent v (cond b (a ∷ filter test xs) (filter test xs))
    by true k = (h.0, k)
    by false k = k

pub filter_of_one : (test : OtherRoot → Bool) (xs : List OtherRoot) → AreOfOne xs → AreOfOne (filter test xs)
filter_of_one test [] h = tt
filter_of_one test (a ∷ xs) h = by (test a) (filter_of_one test xs h.1)
  where
    by : (b : Bool) → AreOfOne (filter test xs) → AreOfOne (cond b (a ∷ filter test xs) (filter test xs))
    by true k = (filter_absent test a.cr3 xs h.0, k)
    by false k = k

pub filter_read : (test : OtherRoot → Bool) (steps : List Taken) (xs : List OtherRoot) → AllRead steps xs → AllRead steps (filter test xs)
filter_read test steps [] h = tt
filter_read test steps (a ∷ xs) h = by (test a) (filter_read test steps xs h.1)
  where
    by : (b : Bool) → AllRead steps (filter test xs) → AllRead steps (cond b (a ∷ filter test xs) (filter test xs))
    by true k = (h.0, k)
    by false k = k

-- what walks of some steps read is read with one more
pub more_read : (steps : List Taken) (t : Taken) (xs : List OtherRoot) → AllRead steps xs → AllRead (steps ++ t ∷ []) xs
more_read steps t [] h = tt
more_read steps t (a ∷ xs) h = (λ f e. read_more steps t f (h.0 f e), more_read steps t xs h.1)

-- ---- where no frame of their tables was written all are spared

none_of : (steps : List Taken) (test : ℕ → Bool) (wrote : List ℕ) → ((f : ℕ) → test f ≡ true → was_read steps f ≡ true)
    → All (λ frame. was_read steps frame ≡ false) wrote → list_any test wrote ≡ false
none_of steps test [] h k = refl
none_of steps test (f ∷ fs) h k = by (test f) (h f) (none_of steps test fs h (All-tail (λ frame. was_read steps frame ≡ false) f fs k))
  where
    by : (b : Bool) → (b ≡ true → was_read steps f ≡ true) → list_any test fs ≡ false → (b || list_any test fs) ≡ false
    by true g rest = clash (was_read steps f) (g refl) (All-head (λ frame. was_read steps frame ≡ false) f fs k)
    by false g rest = rest

pub all_stay : (steps : List Taken) (wrote : List ℕ) (xs : List OtherRoot) → AllRead steps xs
    → All (λ frame. was_read steps frame ≡ false) wrote → all_spared wrote xs ≡ xs
all_stay steps wrote [] h k = refl
all_stay steps wrote (a ∷ xs) h k = by (list_any a.tables wrote) (none_of steps a.tables wrote h.0 k) (all_stay steps wrote xs h.1 k)
  where
    by : (b : Bool) → b ≡ false → all_spared wrote xs ≡ xs → cond (not b) (a ∷ all_spared wrote xs) (all_spared wrote xs) ≡ a ∷ xs
    by true e rest = clash true refl e
    by false e rest = ap (λ (l : List OtherRoot). a ∷ l) rest

-- ---- more values are loaded

pub there_wider : (c : ℕ) (left : Taken) (loaded more : List ℕ) (xs : List OtherRoot)
    → ((v : ℕ) → is_member eqb loaded v ≡ true → is_member eqb more v ≡ true) → IsThere c left loaded xs → IsThere c left more xs
there_wider c left loaded more [] h k = absurd k
there_wider c left loaded more (a ∷ xs) h (inl k) = inl k
there_wider c left loaded more (a ∷ xs) h (inr k) = inr (k.0, h a.cr3 k.1, there_wider c left loaded more xs h k.2)

-- ---- one comes out

pub but_absent : (w v : ℕ) (xs : List OtherRoot) → IsAbsent v xs → IsAbsent v (but_cr3 w xs)
but_absent w v [] h = tt
but_absent w v (a ∷ xs) h = by (a.cr3 == w) (but_absent w v xs h.1)
  where
    by : (b : Bool) → IsAbsent v (but_cr3 w xs) → IsAbsent v (cond b xs (a ∷ but_cr3 w xs))
    by true k = h.1
    by false k = (h.0, k)

but_of_one : (w : ℕ) (xs : List OtherRoot) → AreOfOne xs → AreOfOne (but_cr3 w xs)
but_of_one w [] h = tt
but_of_one w (a ∷ xs) h = by (a.cr3 == w) (but_of_one w xs h.1)
  where
    by : (b : Bool) → AreOfOne (but_cr3 w xs) → AreOfOne (cond b xs (a ∷ but_cr3 w xs))
    by true k = h.1
    by false k = (but_absent w a.cr3 xs h.0, k)

but_read : (steps : List Taken) (w : ℕ) (xs : List OtherRoot) → AllRead steps xs → AllRead steps (but_cr3 w xs)
but_read steps w [] h = tt
but_read steps w (a ∷ xs) h = by (a.cr3 == w) (but_read steps w xs h.1)
  where
    by : (b : Bool) → AllRead steps (but_cr3 w xs) → AllRead steps (cond b xs (a ∷ but_cr3 w xs))
    by true k = h.1
    by false k = (h.0, k)

-- it is the only one of its value
but_none : (w : ℕ) (xs : List OtherRoot) → AreOfOne xs → IsAbsent w (but_cr3 w xs)
but_none w [] h = tt
but_none w (a ∷ xs) h = by (a.cr3 == w) refl (but_none w xs h.1)
  where
    by : (b : Bool) → (a.cr3 == w) ≡ b → IsAbsent w (but_cr3 w xs) → IsAbsent w (cond b xs (a ∷ but_cr3 w xs))
    by true is k = subst (λ (v : ℕ). IsAbsent v xs) (eqb-true a.cr3 w is) h.0
    by false is k = (eqb-false a.cr3 w is, k)

but_there : (w c : ℕ) (left : Taken) (loaded : List ℕ) (xs : List OtherRoot) → (w ≡ c → ⊥) → IsThere c left loaded xs
    → IsThere c left loaded (but_cr3 w xs)
but_there w c left loaded [] ne k = absurd k
but_there w c left loaded (a ∷ xs) ne (inl k) = by (a.cr3 == w) refl
  where
    by : (b : Bool) → (a.cr3 == w) ≡ b → IsThere c left loaded (cond b xs (a ∷ but_cr3 w xs))
    by true is = absurd (ne (sym (eqb-true a.cr3 w is) ∙ k.0))
    by false is = inl k
but_there w c left loaded (a ∷ xs) ne (inr k) = by (a.cr3 == w) (but_there w c left loaded xs ne k.2)
  where
    by : (b : Bool) → IsThere c left loaded (but_cr3 w xs) → IsThere c left loaded (cond b xs (a ∷ but_cr3 w xs))
    by true rest = k.2
    by false rest = inr (k.0, k.1, rest)

-- ---- the first of them

take_absent : (n v : ℕ) (xs : List OtherRoot) → IsAbsent v xs → IsAbsent v (take n xs)
take_absent zero v xs h = tt
take_absent (suc n) v [] h = tt
take_absent (suc n) v (a ∷ xs) h = (h.0, take_absent n v xs h.1)

take_of_one : (n : ℕ) (xs : List OtherRoot) → AreOfOne xs → AreOfOne (take n xs)
take_of_one zero xs h = tt
take_of_one (suc n) [] h = tt
take_of_one (suc n) (a ∷ xs) h = (take_absent n a.cr3 xs h.0, take_of_one n xs h.1)

take_read : (steps : List Taken) (n : ℕ) (xs : List OtherRoot) → AllRead steps xs → AllRead steps (take n xs)
take_read steps zero xs h = tt
take_read steps (suc n) [] h = tt
take_read steps (suc n) (a ∷ xs) h = (h.0, take_read steps n xs h.1)

-- none is of the value where the first of it isn't found
none_absent : (w : ℕ) (xs : List OtherRoot) → of_cr3 w xs ≡ None → IsAbsent w xs
none_absent w [] h = tt
none_absent w (a ∷ xs) h = by (a.cr3 == w) refl (none_absent w xs) h
  where
    by : (b : Bool) → (a.cr3 == w) ≡ b → (of_cr3 w xs ≡ None → IsAbsent w xs) → cond b (Some a) (of_cr3 w xs) ≡ None → IsAbsent w (a ∷ xs)
    by true is k h = absurd (let e : ◌≡◌ {A = Option OtherRoot} (Some a) None = h in cc)
    by false is k h = (eqb-false a.cr3 w is, k h)

-- Each of the values that were seen so far is absent from the rest; they are distinct, were loaded, and none is c.
record HaveSeen (c : ℕ) (loaded seen : List ℕ) (xs : List OtherRoot) : Type 0 where
  distinct : IsDistinct eqb seen
  pool : (q : ℕ) → is_member eqb seen q ≡ true → is_member eqb (but c loaded) q ≡ true
  absent : (q : ℕ) → is_member eqb seen q ≡ true → IsAbsent q xs

not_seen : (c : ℕ) (loaded seen : List ℕ) (a : OtherRoot) (xs : List OtherRoot) → HaveSeen c loaded seen (a ∷ xs)
    → is_member eqb seen a.cr3 ≡ false
not_seen c loaded seen a xs h = by (is_member eqb seen a.cr3) refl
  where
    by : (b : Bool) → is_member eqb seen a.cr3 ≡ b → b ≡ false
    by true is = absurd ((h.absent a.cr3 is).0 refl)
    by false is = refl

seen_more : (c : ℕ) (loaded seen : List ℕ) (a : OtherRoot) (xs : List OtherRoot) → HaveSeen c loaded seen (a ∷ xs) → IsAbsent a.cr3 xs
    → (a.cr3 ≡ c → ⊥) → is_member eqb loaded a.cr3 ≡ true → HaveSeen c loaded (a.cr3 ∷ seen) xs
unfolding IsDistinct
seen_more c loaded seen a xs h alone ne here = record {
  distinct = (absent_apart seen a.cr3 (not_seen c loaded seen a xs h), h.distinct);
  pool = λ q m. elim (member-or a.cr3 seen q m) [
    | inl e ↦ subst (λ (v : ℕ). is_member eqb (but c loaded) v ≡ true) (sym e) (but_member c loaded a.cr3 ne here)
    | inr k ↦ h.pool q k
  ];
  absent = λ q m. elim (member-or a.cr3 seen q m) [
    | inl e ↦ subst (λ (v : ℕ). IsAbsent v xs) (sym e) alone
    | inr k ↦ (h.absent q k).1
  ];
}

take_there : (n c : ℕ) (left : Taken) (loaded seen : List ℕ) (xs : List OtherRoot) → length seen + n ≡ 8
    → distinct_count eqb (but c loaded) ≤ 7 → HaveSeen c loaded seen xs → AreOfOne xs
    → IsThere c left loaded xs → IsThere c left loaded (take n xs)
take_there zero c left loaded seen xs room few h ones k =
    let p = no_more seen (but c loaded) h.distinct h.pool in absurd (omega (arith, p, few, room))
take_there (suc n) c left loaded seen [] room few h ones k = absurd k
take_there (suc n) c left loaded seen (a ∷ xs) room few h ones (inl k) = inl k
take_there (suc n) c left loaded seen (a ∷ xs) room few h ones (inr k) =
    inr (
      k.0,
      k.1,
      take_there n c left loaded (a.cr3 ∷ seen) xs (omega (arith, room)) few
          (seen_more c loaded seen a xs h ones.0 k.0 k.1) ones.1 k.2,
    )

one_seen : (c w : ℕ) (loaded : List ℕ) (xs : List OtherRoot) → (w ≡ c → ⊥) → is_member eqb loaded w ≡ true → IsAbsent w xs
    → HaveSeen c loaded (w ∷ []) xs
unfolding IsDistinct
one_seen c w loaded xs ne here alone = record {
  distinct = (tt, tt);
  pool = λ q m. elim (member-or w [] q m) [
    | inl e ↦ subst (λ (v : ℕ). is_member eqb (but c loaded) v ≡ true) (sym e) (but_member c loaded w ne here)
    | inr k ↦ absurd (let f : false ≡ true = k in cc)
  ];
  absent = λ q m. elim (member-or w [] q m) [
    | inl e ↦ subst (λ (v : ℕ). IsAbsent v xs) (sym e) alone
    | inr k ↦ absurd (let f : false ≡ true = k in cc)
  ];
}

-- ---- a load

abbrev Stays : (w : ℕ) → List OtherRoot → (List OtherRoot → Type 0) → Option OtherRoot → Type 0
Stays w xs P o = P (beside_coming w xs o)

pub staying_absent : (w : ℕ) (xs : List OtherRoot) → AreOfOne xs → IsAbsent w (staying w xs)
staying_absent w xs h = by (of_cr3 w xs) refl
  where
    by : (o : Option OtherRoot) → of_cr3 w xs ≡ o → IsAbsent w (beside_coming w xs o)
    by None is = take_absent 7 w xs (none_absent w xs is)
    by (Some a) is = but_none w xs h

pub staying_of_one : (w : ℕ) (xs : List OtherRoot) → AreOfOne xs → AreOfOne (staying w xs)
staying_of_one w xs h = by (of_cr3 w xs)
  where
    by : (o : Option OtherRoot) → AreOfOne (beside_coming w xs o)
    by None = take_of_one 7 xs h
    by (Some a) = but_of_one w xs h

pub staying_read : (steps : List Taken) (w : ℕ) (xs : List OtherRoot) → AllRead steps xs → AllRead steps (staying w xs)
staying_read steps w xs h = by (of_cr3 w xs)
  where
    by : (o : Option OtherRoot) → AllRead steps (beside_coming w xs o)
    by None = take_read steps 7 xs h
    by (Some a) = but_read steps w xs h

pub staying_there : (w c : ℕ) (left : Taken) (loaded : List ℕ) (xs : List OtherRoot) → (w ≡ c → ⊥) → is_member eqb loaded w ≡ true
    → distinct_count eqb (but c loaded) ≤ 7 → AreOfOne xs
    → IsThere c left loaded xs → IsThere c left loaded (staying w xs)
staying_there w c left loaded xs ne here few ones k = by (of_cr3 w xs) refl
  where
    by : (o : Option OtherRoot) → of_cr3 w xs ≡ o → IsThere c left loaded (beside_coming w xs o)
    by None is = take_there 7 c left loaded (w ∷ []) xs (omega arith) few (one_seen c w loaded xs ne here (none_absent w xs is)) ones k
    by (Some a) is = but_there w c left loaded xs ne k

pub coming_there : (c : ℕ) (left : Taken) (loaded : List ℕ) (xs : List OtherRoot) → IsThere c left loaded xs
    → ComesFrom left (entries_of (coming c xs).slots)
coming_there c left loaded [] k = absurd k
coming_there c left loaded (a ∷ xs) (inl k) = by (a.cr3 == c) (eq-eqb a.cr3 c k.0)
  where
    by : (b : Bool) → b ≡ true → ComesFrom left (entries_of (or_begun c (cond b (Some a) (of_cr3 c xs))).slots)
    by true e = k.1
    by false e = clash true refl (sym e)
coming_there c left loaded (a ∷ xs) (inr k) = by (a.cr3 == c) (ne_eqb a.cr3 c k.0) (coming_there c left loaded xs k.2)
  where
    by : (b : Bool) → b ≡ false → ComesFrom left (entries_of (coming c xs).slots)
        → ComesFrom left (entries_of (or_begun c (cond b (Some a) (of_cr3 c xs))).slots)
    by true e rest = clash true refl e
    by false e rest = rest

pub coming_first : (a : OtherRoot) (xs : List OtherRoot) (c : ℕ) → a.cr3 ≡ c → coming c (a ∷ xs) ≡ a
coming_first a xs c e = by (a.cr3 == c) (eq-eqb a.cr3 c e)
  where
    by : (b : Bool) → b ≡ true → or_begun c (cond b (Some a) (of_cr3 c xs)) ≡ a
    by true h = refl
    by false h = clash true refl (sym h)

pub coming_read : (steps : List Taken) (c : ℕ) (xs : List OtherRoot) → AllRead steps xs → (frame : ℕ) → (coming c xs).tables frame ≡ true
    → was_read steps frame ≡ true
coming_read steps c [] h frame e = absurd (let f : false ≡ true = e in cc)
coming_read steps c (a ∷ xs) h frame e = by (a.cr3 == c) (coming_read steps c xs h.1 frame) e
  where
    by : (b : Bool) → ((coming c xs).tables frame ≡ true → was_read steps frame ≡ true)
        → (or_begun c (cond b (Some a) (of_cr3 c xs))).tables frame ≡ true → was_read steps frame ≡ true
    by true k e = h.0 frame e
    by false k e = k e
